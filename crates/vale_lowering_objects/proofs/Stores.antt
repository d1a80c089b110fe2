-- The set of a local whose old value isn't used: it is dropped.
use Rattle.std.proofs.Common.{◌≡◌, ◌≢◌, ℕ, ◌+◌, ◌<◌, ◌≤◌, List, [], ◌∷◌, Option, Some, None, Bool, true, false, ◌&&◌, if◌then◌else◌, refl, sym, ap, ◌∙◌, subst, ◌⊎◌, inl, inr, arith}
use Rattle.vale_state_spec.specs.Outcome.{Wrong}
use Rattle.vale_state_spec.specs.State.{State}
use Rattle.vale_state_spec.specs.World.{Value}
use Rattle.vale_base.specs.declared.spot.Spot.{Spot}
use Rattle.vale_rules_spec.specs.Typed.{Function}
use Rattle.vale_model.specs.Parts.{Parts}
use Rattle.vale_model.specs.Runs.{Locals, Result, goes, ended}
use Rattle.vale_model.specs.Destruction.{Again, drop, drop_owned}
use Rattle.vale_code.specs.Instructions.{copied, moved}
use Rattle.vale_code.specs.Parts.{Parts as Code}
use Rattle.vale_code.specs.Registers.{Registers, read, put}
use Rattle.vale_code.specs.declared.instr.Instr.TheVariants as i
use Rattle.vale_lowering.proofs.Registers.{Held, Base, with_at, one_above}
use Rattle.vale_lowering.proofs.Reaches.{Where, conf, calls_in, Post}
use Rattle.vale_lowering_objects.specs.Destruction.{SameKinds}
use Rattle.vale_lowering_objects.specs.Scopes.{Gives, void, copy, owner, is_owner, same_truth, Entry, Scope, Gone, is_gone}
use Rattle.vale_lowering_objects.specs.Lowered.{store_by, store}
use Rattle.vale_lowering_objects.proofs.Destruction.{IsOwned}
use Rattle.vale_lowering_objects.proofs.Owes.{Follows}
use Rattle.vale_lowering_objects.proofs.Registers.{Fits, Holds, Falls, Agrees, agrees_down, Meets, Takes, agrees_taken, top_read, same_truths}
use Rattle.vale_lowering_objects.proofs.Reaches.{Keeps, Reaches, Runs, is_stuck, then_reaches, ends_at}
use Rattle.vale_lowering_objects.proofs.Posts.{as_it_is}
use Rattle.vale_lowering_objects.proofs.Drops.{Without, destroys}
use Rattle.vale_lowering_objects.proofs.Steps.{IsCopied, copied_or_not, moved_or_not, copy_wrongs, move_wrongs, copies, shifts, put_here, put_other}
use Rattle.vale_lowering_objects.proofs.Ways.{Leaving}

module _ (code : Code) (functions : List Function) (p0 : Parts) (kinds : SameKinds code functions p0) (k : Where) (out : Leaving) (n : ℕ) (again : Again) (follows : Follows code functions p0 again n) where
  module _ (at : Spot) (p h : ℕ) (s : Scope) (g : Gone) (base : Base) (l l' : Locals) (regs : Registers) (w : State) (new : Value) (fa : Falls h s) (ag : Agrees (h + 1) s g l (with_at h (Some new) base) regs) (few : w.left ≤ n) where
    abbrev post : Post (Option Value)
    post = Keeps {A = Option Value} h s base g

    top : read regs h ≡ Some new
    top = top_read s g l base h (h + 1) (Some new) regs fa (omega arith) ag

    down : Agrees h s g l base regs
    down = agrees_down s g l base (with_at h (Some new) base) h (h + 1) regs regs fa (omega arith) (one_above base h (Some new)) (λ z lt. refl) ag

    hold_copied : (x : Entry) → x.owned ≡ false → Holds x.owned (is_gone x.register g) (Some new)
    hold_copied x e = subst (λ o. Holds o (is_gone x.register g) (Some new)) (sym e) tt

    hold_owned : (x : Entry) → x.owned ≡ true → is_gone x.register g ≡ false → Holds x.owned (is_gone x.register g) (Some new)
    hold_owned x e f = subst (λ o. Holds o (is_gone x.register g) (Some new)) (sym e) (subst (λ z. Holds true z (Some new)) (sym f) tt)

    -- a value goes to the local's register
    stored_copy : (x : Entry) (old : Value) → x.owned ≡ false → Takes h s g l base (Some new) (Some x) l' → Runs code k out n (i.Copy x.register h ∷ []) post p regs w (goes None l' w)
    stored_copy x old same t has = by (copied_or_not new)
      where
        by : IsCopied new ⊎ (copied new ≡ None) → Reaches code k out n (p + 1) post (conf k p regs w) (goes None l' w)
        by (inr bad) = copy_wrongs code k out n p (p + 1) x.register h post regs w new (goes None l' w) bad top has.0
        by (inl c) = inr (
          put regs x.register (Some new),
          copies code k out n p x.register h regs w new c top has.0,
          agrees_taken s g l l' base h x (Some new) regs (put regs x.register (Some new)) (hold_copied x same) t down (put_here code k out n regs x.register (Some new)) (λ z lt ne. put_other code k out n regs x.register z (Some new) ne),
          few,
        )

    -- an owner does, where nothing stands any more
    stored_owner : (x : Entry) (q : ℕ) (l1 : Locals) (w1 : State) (regs1 : Registers) → x.owned ≡ true → is_gone x.register g ≡ false → Takes h s g l base (Some new) (Some x) l' → l1 ≡ l' → ((z : ℕ) → z ≢ x.register → read regs1 z ≡ read regs z) → w1.left ≤ n → Runs code k out n (i.Move x.register h ∷ []) post q regs1 w1 (goes None l1 w1)
    stored_owner x q l1 w1 regs1 same whole t e kept few1 has = by (moved_or_not new)
      where
        there : read regs1 h ≡ Some new
        there = let ne : h ≢ x.register = omega (arith, t.0) in kept h ne ∙ top

        regs2 : Registers
        regs2 = put (put regs1 h None) x.register (Some new)

        others : (z : ℕ) → z < h → z ≢ x.register → read regs2 z ≡ read regs z
        others z lt ne =
            let ne2 : z ≢ h = omega arith in
            put_other code k out n (put regs1 h None) x.register z (Some new) ne ∙ put_other code k out n regs1 h z None ne2 ∙ kept z ne

        by : IsOwned new ⊎ (moved new ≡ None) → Reaches code k out n (q + 1) post (conf k q regs1 w1) (goes None l1 w1)
        by (inr bad) = move_wrongs code k out n q (q + 1) x.register h post regs1 w1 new (goes None l1 w1) bad there has.0
        by (inl c) = inr (
          regs2,
          shifts code k out n q x.register h regs1 w1 new c there has.0,
          subst (λ z. Agrees h s g z base regs2) (sym e) (agrees_taken s g l l' base h x (Some new) regs regs2 (hold_owned x same whole) t down (put_here code k out n (put regs1 h None) x.register (Some new)) others),
          few1,
        )

    stored : (q : Gives) (x : Entry) (old : Value) → x.owned ≡ is_owner q → (x.owned ≡ true → is_gone x.register g ≡ false) → Fits q (Some new) → read regs x.register ≡ Some old → Takes h s g l base (Some new) (Some x) l' → Runs code k out n (store_by q x.register h at) post p regs w (drop_owned again at (is_owner q) (Some old) (calls_in k) l' w)
    stored void x old same whole fits e t has = absurd fits
    stored copy x old same whole fits e t has = stored_copy x old same t has
    stored owner x old same whole fits e t has =
        as_it_is code k out n (p + 2) post (conf k p regs w) (drop again at (Some old) (calls_in k) l' w)
        (ends_at code k out n (p + 1 + 1) (p + 2) post (conf k p regs w) _ (omega arith)
        (then_reaches code k out n (p + 1) (p + 1 + 1) (Without x.register l' regs) post (conf k p regs w) (drop again at (Some old) (calls_in k) l' w) (λ v l w. goes v l w)
        (destroys code functions p0 kinds k out n again follows p x.register at old l' regs w e few (has.0, tt))
        (λ u l1 w1 regs1 a few1. subst (λ v. Reaches code k out n (p + 1 + 1) post (conf k (p + 1) regs1 w1) (goes v l1 w1)) (sym a.0) (stored_owner x (p + 1) l1 w1 regs1 same (whole same) t a.1 a.2 few1 has.1))))

    -- what the local held is dropped
    abbrev pub replaced : Gives → Held → Result (Option Value)
    replaced q None = ended Wrong w
    replaced q (Some old) = drop_owned again at (is_owner q) (Some old) (calls_in k) l' w

    stored_held : (q : Gives) (x : Entry) (u : Held) → x.owned ≡ is_owner q → (x.owned ≡ true → is_gone x.register g ≡ false) → Fits q (Some new) → Holds x.owned (is_gone x.register g) u → read regs x.register ≡ u → Takes h s g l base (Some new) (Some x) l' → Runs code k out n (store_by q x.register h at) post p regs w (replaced q u)
    stored_held q x (Some old) same whole fits hold e t has = stored q x old same whole fits e t has
    stored_held q x None same whole fits hold e t has = absurd (nothing_held x.owned (is_gone x.register g) whole hold)
      where
        nothing_held : (owned gone : Bool) → (owned ≡ true → gone ≡ false) → Holds owned gone None → ⊥
        nothing_held false gone whole hold = hold
        nothing_held true false whole hold = hold
        nothing_held true true whole hold = let e = whole refl in cc

    pub stores : (q : Gives) (o : Option Entry) (u : Held) → Fits q (Some new) → Meets h s g l o u → Takes h s g l base (Some new) o l' → Runs code k out n (store o g q h at) post p regs w (replaced q u)
    stores q None u fits m t has = is_stuck code k out n p (p + 1) h post regs w (replaced q u) has
    stores q (Some x) u fits m t has = by (same_truth x.owned (is_owner q)) (x.owned && is_gone x.register g) refl refl has
      where
        by : (b c : Bool) → same_truth x.owned (is_owner q) ≡ b → (x.owned && is_gone x.register g) ≡ c → Runs code k out n (if b then (if c then i.Truth h 2 ∷ [] else store_by q x.register h at) else i.Truth h 2 ∷ []) post p regs w (replaced q u)
        by false c e f has = is_stuck code k out n p (p + 1) h post regs w (replaced q u) has
        by true true e f has = is_stuck code k out n p (p + 1) h post regs w (replaced q u) has
        by true false e f has =
            let lt : x.register < h + 1 = omega (arith, m.0) in
            let ne : x.register ≢ h = omega (arith, m.0) in
            stored_held q x u (same_truths x.owned (is_owner q) e) (λ o. ap (λ b. b && is_gone x.register g) (sym o) ∙ f) fits m.1
            (ag.each x.register lt ∙ m.2 (with_at h (Some new) base)) t has
