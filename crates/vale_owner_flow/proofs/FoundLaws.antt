-- What is found, one thing after another.
use Rattle.std.proofs.Common.{◌≡◌, List, [], ◌∷◌, ◌++◌, refl, ap, sym, ◌∙◌}
use Rattle.std.specs.Prelude.{Bool, true, false, ◌&&◌, ◌||◌, Option, Some, None, option_map}
use Rattle.vale_base.specs.declared.spot.Spot.{Spot}
use Rattle.vale_syntax.specs.declared.fault.Fault.{Fault}
use Rattle.vale_syntax.specs.declared.tree.NameAt.{NameAt}
use Rattle.vale_rules_spec.specs.Judged.{first_of}
use Rattle.vale_rules_spec.specs.Owned.{Flow, ◌then◌, Branches, add_branch, all_alike, agree, behind}
use Rattle.vale_rules_spec.specs.Whole.{Locals, is_whole, are_alike}
use Rattle.vale_owner_flow.specs.FlowView.{FlowView, earlier, going, naming, moving, judged, declaring, declaring_all, loop_ended, Kept, no_branches, with_branch, with_branches, sided, branch_ended, or_else, back_to, in_scope, kept}
use Rattle.vale_owner_flow.specs.declared.branches.Branches as code

-- ---- first faults

pub first_append : (xs ys : List Fault) → first_of (xs ++ ys) ≡ earlier (first_of xs) (first_of ys)
first_append [] ys = refl
first_append (x ∷ xs) ys = refl

pub earlier_assoc : (a b c : Option Fault) → earlier (earlier a b) c ≡ earlier a (earlier b c)
earlier_assoc None b c = refl
earlier_assoc (Some f) b c = refl

pub earlier_none : (a : Option Fault) → earlier a None ≡ a
earlier_none None = refl
earlier_none (Some f) = refl

pub in_turn : (a : Option Fault) (xs ys : List Fault) → earlier a (first_of (xs ++ ys)) ≡ earlier (earlier a (first_of xs)) (first_of ys)
in_turn a xs ys = ap (λ z. earlier a z) (first_append xs ys) ∙ sym (earlier_assoc a (first_of xs) (first_of ys))

abbrev pub made : Option Fault → Locals → FlowView
made first locals = record { first = first; locals = locals }

pub going_still : (f : FlowView) → made (earlier f.first None) f.locals ≡ f
going_still f = ap (λ z. made z f.locals) (earlier_none f.first)

pub going_then : (p q : Locals → Flow) (f : FlowView) → going (λ ls. p ls then q) f ≡ going q (going p f)
going_then p q f = ap (λ z. made z (q (p f.locals).after).after) (in_turn f.first (p f.locals).faults (q (p f.locals).after).faults)

-- ---- names

pub declare_none : (f : FlowView) → declaring_all [] f ≡ f
unfolding declaring_all
declare_none f = refl

pub declare_more : (n : NameAt) (ns : List NameAt) (f : FlowView) → declaring_all (n ∷ ns) f ≡ declaring_all ns (declaring n f)
unfolding declaring_all declaring
declare_more n ns f = refl

pub ruleset declarations = (declare_none, declare_more)

pub name_moves : (n : NameAt) (f : FlowView) → naming n true f ≡ moving n.name.0 (judged n.at 30 (is_whole n.name.0 f.locals) f)
unfolding naming moving judged
name_moves n f = refl

pub name_stays : (n : NameAt) (f : FlowView) → naming n false f ≡ judged n.at 30 (is_whole n.name.0 f.locals) f
unfolding naming judged
name_stays n f = refl

pub ruleset named = (name_moves, name_stays)

-- ---- ends

pub loop_is : (at : Spot) (stays : Bool) (start : Locals) (returns : Bool) (f : FlowView) → loop_ended at stays start returns f ≡ back_to start (judged at 32 (stays && (returns || are_alike start f.locals)) f)
unfolding loop_ended back_to judged
loop_is at stays start returns f = refl

pub branch_is : (at : Spot) (before : Locals) (f : FlowView) (k : Kept) → branch_ended at before (sided f k) ≡ back_to (or_else k.first before) (judged at 31 k.alike f)
unfolding branch_ended sided back_to judged
branch_is at before f k = refl

pub first_branch_is : (k : code.Branches) → (kept k).first ≡ option_map (λ v. in_scope v.items) k.first
unfolding kept
first_branch_is k = refl

pub alike_is : (k : code.Branches) → (kept k).alike ≡ k.alike
unfolding kept
alike_is k = refl

pub ruleset branches = (branch_is, first_branch_is, alike_is)

-- ---- branches

and_and : (a b c : Bool) → ((a && b) && c) ≡ (a && (b && c))
and_and true b c = refl
and_and false b c = refl

abbrev all_kept : Option Locals → Bool → Kept
all_kept first alike = record { first = first; alike = alike }

branches_from : (ws : Branches) (w : Locals) (alike : Bool) → with_branches ws (all_kept (Some w) alike) ≡ all_kept (Some w) (alike && all_alike w ws)
unfolding with_branches with_branch
branches_from [] w true = refl
branches_from [] w false = refl
branches_from (v ∷ ws) w alike = branches_from ws w (alike && are_alike w v) ∙ ap (λ z. all_kept (Some w) z) (and_and alike (are_alike w v) (all_alike w ws))

pub all_branches : (ws : Branches) → (with_branches ws no_branches).alike ≡ agree ws
unfolding with_branches with_branch no_branches
all_branches [] = refl
all_branches (w ∷ ws) = ap (λ k. k.alike) (branches_from ws w true)

pub branches_behind : (before : Locals) (ws : Branches) → or_else (with_branches ws no_branches).first before ≡ behind before ws
unfolding with_branches with_branch no_branches
branches_behind before [] = refl
branches_behind before (w ∷ ws) = ap (λ k. or_else k.first before) (branches_from ws w true)

pub one_way : (returns : Bool) (ls : Locals) (ws : Branches) (k : Kept) → with_branches (add_branch returns ls ws) k ≡ with_branches ws (with_branch returns ls k)
unfolding with_branches with_branch
one_way true ls ws k = refl
one_way false ls ws k = refl
