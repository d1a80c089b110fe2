-- A list of calls stands for the same list of calls of a heap of names.
use Rattle.std.proofs.Common.{◌≡◌, ◌<◌, ℕ, List, [], ◌∷◌, ◌++◌, refl, sym, subst, ⊎_elim}
use Rattle.std.specs.Prelude.{Contains}
use Rattle.std.proofs.lemmas.List.Elements.{Contains-push_cases}
use Rattle.vale_table.specs.Lending.{IsFull, StillOut}
use Rattle.vale_table.specs.Plain.{Plain, frames_of, out_of}
use Rattle.vale_heap.specs.declared.body.Place.{Place}
use Rattle.vale_heap.specs.HeapState.{HeapState}
use Rattle.vale_heap_calls.specs.declared.call.Call.{Call}
use Rattle.vale_heap_calls.specs.declared.call.Reply.{Reply}
use Rattle.vale_heap_calls.specs.declared.call.Reply.TheVariants.{NoPage}
use Rattle.vale_heap_calls.specs.Calls.{State, Lawful, Answers, AllLawful, AnswerAll}
use Rattle.vale_heap_calls.specs.Tied.{CanCall, CanCallAll, Follows, FollowAll, HasCause}

lawful_prefix : (depth : ℕ) (s : State) (calls rest : List Call) → AllLawful depth s (calls ++ rest) → AllLawful depth s calls
lawful_prefix depth s [] rest all = tt
lawful_prefix depth s (call ∷ calls) rest all = (all.0, λ reply next answers. lawful_prefix depth next calls rest (all.1 reply next answers))

lawful_rest : (depth : ℕ) (s last : State) (calls rest : List Call) (replies : List Reply) → AllLawful depth s (calls ++ rest) → AnswerAll s calls replies last → AllLawful depth last rest
lawful_rest depth s last [] rest [] all answers = subst (λ x. AllLawful depth x rest) (sym answers) all
lawful_rest depth s last (call ∷ calls) rest (reply ∷ replies) all answers = lawful_rest depth answers.0 last calls rest replies (all.1 reply answers.0 answers.1) answers.2
lawful_rest depth s last [] rest (reply ∷ replies) all answers = absurd answers
lawful_rest depth s last (call ∷ calls) rest [] all answers = absurd answers

answer_push : (s mid last : State) (calls : List Call) (replies : List Reply) (call : Call) (reply : Reply) → AnswerAll s calls replies mid → Answers mid call reply last → AnswerAll s (calls ++ call ∷ []) (replies ++ reply ∷ []) last
answer_push s mid last [] [] call reply all one = (last, subst (λ x. Answers x call reply last) all one, refl)
answer_push s mid last (c ∷ calls) (r ∷ replies) call reply all one = (all.0, all.1, answer_push all.0 mid last calls replies call reply all.2 one)
answer_push s mid last [] (r ∷ replies) call reply all one = absurd all
answer_push s mid last (c ∷ calls) [] call reply all one = absurd all

pub follow_none : (heap : HeapState) (table : Plain) (places : List Place) → FollowAll heap heap table table places places [] []
follow_none heap table places s tied all = (s, refl, tied)

pub follow_more : (heap mid new : HeapState) (table mid_table new_table : Plain) (places mid_places new_places : List Place) (calls : List Call) (replies : List Reply) (call : Call) (reply : Reply) →
    mid.depth ≡ heap.depth → FollowAll heap mid table mid_table places mid_places calls replies → Follows mid new mid_table new_table mid_places new_places call reply →
    FollowAll heap new table new_table places new_places (calls ++ call ∷ []) (replies ++ reply ∷ [])
follow_more heap mid new table mid_table new_table places mid_places new_places calls replies call reply depth follow one s tied all =
    let before = follow s tied (lawful_prefix heap.depth s calls (call ∷ []) all) in
    let lawful = (lawful_rest heap.depth s before.0 calls (call ∷ []) replies all before.1).0 in
    let after = one before.0 before.2 (subst (λ d. Lawful d before.0 call) (sym depth) lawful) in
    (after.0, answer_push s before.0 after.0 calls replies call reply before.1 after.1, after.2)

-- the next call may be made
pub can_next : (heap mid : HeapState) (table mid_table : Plain) (places mid_places : List Place) (all calls rest : List Call) (replies : List Reply) (call : Call) →
    mid.depth ≡ heap.depth → FollowAll heap mid table mid_table places mid_places calls replies → calls ++ call ∷ rest ≡ all → CanCallAll heap table places all → CanCall mid mid_table mid_places call
can_next heap mid table mid_table places mid_places all calls rest replies call depth follow is can =
    let lawful : AllLawful heap.depth can.0 (calls ++ call ∷ rest) = subst (AllLawful heap.depth can.0) (sym is) can.2 in
    let before = follow can.0 can.1 (lawful_prefix heap.depth can.0 calls (call ∷ rest) lawful) in
    (before.0, before.2, subst (λ d. Lawful d before.0 call) (sym depth) (lawful_rest heap.depth can.0 before.0 calls (call ∷ rest) replies lawful before.1).0)

-- where all frames are out they stay out
full_still : (table new_table : Plain) → IsFull (frames_of table) (out_of table) → StillOut (out_of table) (out_of new_table) → frames_of new_table ≡ frames_of table → IsFull (frames_of new_table) (out_of new_table)
full_still table new_table full more frames = λ frame within. more frame (full frame (subst (λ n. frame < n) frames within))

-- after one more reply all frames are out, where an object wasn't made
pub full_more : (heap : HeapState) (table new_table : Plain) (replies : List Reply) (reply : Reply) →
    (Contains replies NoPage → IsFull (frames_of table) (out_of table)) → StillOut (out_of table) (out_of new_table) → frames_of new_table ≡ frames_of table → HasCause heap new_table reply →
    Contains (replies ++ reply ∷ []) NoPage → IsFull (frames_of new_table) (out_of new_table)
full_more heap table new_table replies reply full more frames cause any =
    ⊎_elim (λ earlier. full_still table new_table (full earlier) more frames)
    (λ (last : reply ≡ NoPage). let why : HasCause heap new_table NoPage = subst (HasCause heap new_table) last cause in why.1)
    (Contains-push_cases replies reply NoPage any)
