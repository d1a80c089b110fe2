-- Registers against locals, the values that wait, and temporaries.
use Rattle.std.proofs.Common.{Option, Some, None, Bool, true, false, ◌&&◌, ◌==◌, if◌then◌else◌, length, ◌≡◌, ◌≢◌, ℕ, zero, suc, ◌+◌, ◌<◌, ◌≤◌, List, [], ◌∷◌, refl, sym, ap, ◌∙◌, subst, ◌⊎◌, inl, inr, ⊎_elim, arith}
use Rattle.std.proofs.lemmas.Bool.{cases_lt}
use Rattle.std.proofs.lemmas.Bool.Decides.{Decides-eqb}
use Rattle.vale_state_spec.specs.World.{Value}
use Rattle.vale_model.specs.Runs.{Local, Locals, has_name, held_by, with_held, outer, innermost}
use Rattle.vale_code.specs.Registers.{Registers, read, put}
use Rattle.vale_lowering.proofs.Registers.{Held, pick, pick_same, pick_other, read_put, pick_twice, pick_swap, Base, with_at, pick_local, local_other, local_swap, one_above, with_all, with_all_below, Stand}
use Rattle.vale_rules_spec.specs.Types.{Ty, is_owned}
use Rattle.vale_rules_spec.specs.Types as y
use Rattle.vale_lowering_objects.specs.Scopes.{Gives, void, copy, owner, gives_of, is_owner, Entry, Scope, entry, waiting, find, Gone, is_gone, without, same_truth, same_gone}

-- a part gives a value, or none
abbrev pub Fits : Gives → Held → Type 0
Fits void None = Unit {0}
Fits void (Some v) = ⊥
Fits copy None = ⊥
Fits copy (Some v) = Unit {0}
Fits owner None = ⊥
Fits owner (Some v) = Unit {0}

-- what an entry holds, by whether it is owned and whether it is gone: a value, or nothing where it is gone
abbrev pub Holds : Bool → Bool → Held → Type 0
Holds false gone None = ⊥
Holds false gone (Some v) = Unit {0}
Holds true false None = ⊥
Holds true false (Some v) = Unit {0}
Holds true true None = Unit {0}
Holds true true (Some v) = ⊥

-- a value that waits stands in its register, which is a temporary
abbrev pub Waits : Option ℕ → Base → ℕ → Held → Type 0
Waits None base r v = base r ≡ v
Waits (Some n) base r v = Unit {0}

-- what a register holds: its local's value, or that of the base
abbrev pub look : Scope → Locals → Base → ℕ → Held
look [] l base r = base r
look (x ∷ s) [] base r = base r
look (x ∷ s) (y ∷ l) base r = pick_local x.name r x.register y.value (look s l base r)

-- the registers of the entries lie below h, each above those of the entries outside it
abbrev pub Falls : ℕ → Scope → Type 0
Falls h [] = Unit {0}
Falls h (x ∷ s) = (x.register < h) × Falls x.register s

-- the locals are those in scope, and are there or gone as the lowering says
abbrev pub Ties : Gone → Scope → Locals → Base → Type 0
Ties g [] [] base = Unit {0}
Ties g [] (y ∷ l) base = ⊥
Ties g (x ∷ s) [] base = ⊥
Ties g (x ∷ s) (y ∷ l) base = (x.name ≡ y.name) × Holds x.owned (is_gone x.register g) y.value × Waits x.name base x.register y.value × Ties g s l base × (x.owned ≡ y.owned)

-- THE RELATION. Below h each register holds what the locals and the base say.
pub record Agrees (h : ℕ) (s : Scope) (g : Gone) (l : Locals) (base : Base) (regs : Registers) : Type 0 where
  pub ties : Ties g s l base
  pub each : (r : ℕ) → r < h → read regs r ≡ look s l base r

pub falls_up : (s : Scope) (h k : ℕ) → h ≤ k → Falls h s → Falls k s
falls_up [] h k le f = tt
falls_up (x ∷ s) h k le f = (omega (arith, f.0), f.1)

-- above the locals the base alone counts
pub look_above : (s : Scope) (l : Locals) (base : Base) (h r : ℕ) → Falls h s → h ≤ r → look s l base r ≡ base r
look_above [] l base h r f le = refl
look_above (x ∷ s) [] base h r f le = refl
look_above (x ∷ s) (y ∷ l) base h r f le =
    let ne : r ≢ x.register = omega (arith, f.0) in
    local_other x.name r x.register y.value (look s l base r) ne ∙ look_above s l base x.register r f.1 (omega (arith, f.0))

pub look_same : (s : Scope) (l : Locals) (b c : Base) (r : ℕ) → b r ≡ c r → look s l b r ≡ look s l c r
look_same [] l b c r e = e
look_same (x ∷ s) [] b c r e = e
look_same (x ∷ s) (y ∷ l) b c r e = ap (pick_local x.name r x.register y.value) (look_same s l b c r e)

-- ---- another base, and other moves

waits_on : (m : Option ℕ) (r : ℕ) (v : Held) (b c : Base) → c r ≡ b r → Waits m b r v → Waits m c r v
waits_on None r v b c e w = e ∙ w
waits_on (Some n) r v b c e w = tt

pub ties_below : (g : Gone) (s : Scope) (l : Locals) (b c : Base) (h : ℕ) → Falls h s → ((r : ℕ) → r < h → c r ≡ b r) → Ties g s l b → Ties g s l c
ties_below g [] [] b c h f e t = tt
ties_below g [] (y ∷ l) b c h f e t = absurd t
ties_below g (x ∷ s) [] b c h f e t = absurd t
ties_below g (x ∷ s) (y ∷ l) b c h f e t =
    (t.0, t.1, waits_on x.name x.register y.value b c (e x.register f.0) t.2, ties_below g s l b c x.register f.1 (λ r lt. e r (omega (arith, f.0))) t.3, t.4)

-- no entry has the register d
abbrev pub Fresh : ℕ → Scope → Type 0
Fresh d [] = Unit {0}
Fresh d (x ∷ s) = (d ≢ x.register) × Fresh d s

pub fresh_above : (s : Scope) (h d : ℕ) → Falls h s → h ≤ d → Fresh d s
fresh_above [] h d f le = tt
fresh_above (x ∷ s) h d f le = (omega (arith, f.0), fresh_above s x.register d f.1 (omega (arith, f.0)))

ties_dest : (g : Gone) (s : Scope) (l : Locals) (b : Base) (d : ℕ) (v : Held) → Fresh d s → Ties g s l b → Ties g s l (with_at d v b)
ties_dest g [] [] b d v f t = tt
ties_dest g [] (y ∷ l) b d v f t = absurd t
ties_dest g (x ∷ s) [] b d v f t = absurd t
ties_dest g (x ∷ s) (y ∷ l) b d v f t =
    let ne : x.register ≢ d = λ e. f.0 (sym e) in
    (t.0, t.1, waits_on x.name x.register y.value b (with_at d v b) (pick_other x.register d v (b x.register) ne) t.2, ties_dest g s l b d v f.1 t.3, t.4)

ties_every : (g : Gone) (s : Scope) (l : Locals) (b c : Base) → ((r : ℕ) → c r ≡ b r) → Ties g s l b → Ties g s l c
ties_every g [] [] b c e t = tt
ties_every g [] (y ∷ l) b c e t = absurd t
ties_every g (x ∷ s) [] b c e t = absurd t
ties_every g (x ∷ s) (y ∷ l) b c e t = (t.0, t.1, waits_on x.name x.register y.value b c (e x.register) t.2, ties_every g s l b c e t.3, t.4)

ties_gone : (g g' : Gone) (s : Scope) (l : Locals) (b : Base) (h : ℕ) → Falls h s → ((r : ℕ) → r < h → is_gone r g' ≡ is_gone r g) → Ties g s l b → Ties g' s l b
ties_gone g g' [] [] b h f e t = tt
ties_gone g g' [] (y ∷ l) b h f e t = absurd t
ties_gone g g' (x ∷ s) [] b h f e t = absurd t
ties_gone g g' (x ∷ s) (y ∷ l) b h f e t =
    (t.0, subst (λ q. Holds x.owned q y.value) (sym (e x.register f.0)) t.1, t.2, ties_gone g g' s l b x.register f.1 (λ r lt. e r (omega (arith, f.0))) t.3, t.4)

pub same_truths : (a b : Bool) → same_truth a b ≡ true → a ≡ b
same_truths true true e = refl
same_truths true false e = absurd (cc)
same_truths false true e = absurd (cc)
same_truths false false e = refl

pub and_first : (a b : Bool) → (a && b) ≡ true → a ≡ true
and_first true b e = refl
and_first false b e = e

pub and_second : (a b : Bool) → (a && b) ≡ true → b ≡ true
and_second true b e = e
and_second false b e = absurd (cc)

-- two ways that meet
ties_met : (g g' : Gone) (s : Scope) (l : Locals) (b : Base) → same_gone s g g' ≡ true → Ties g' s l b → Ties g s l b
ties_met g g' [] [] b e t = tt
ties_met g g' [] (y ∷ l) b e t = absurd t
ties_met g g' (x ∷ s) [] b e t = absurd t
ties_met g g' (x ∷ s) (y ∷ l) b e t =
    let here = same_truths (is_gone x.register g) (is_gone x.register g') (and_first _ (same_gone s g g') e) in
    (t.0, subst (λ q. Holds x.owned q y.value) (sym here) t.1, t.2, ties_met g g' s l b (and_second (same_truth (is_gone x.register g) (is_gone x.register g')) _ e) t.3, t.4)

pub agrees_met : (h : ℕ) (g g' : Gone) (s : Scope) (l : Locals) (b : Base) (regs : Registers) → same_gone s g g' ≡ true → Agrees h s g' l b regs → Agrees h s g l b regs
agrees_met h g g' s l b regs e a = record { ties = ties_met g g' s l b e a.ties; each = a.each }

-- ---- the list of what is gone

eq_is : (q r : ℕ) → (q == r) ≡ true → q ≡ r
eq_is q r e = (Decides-eqb q r).0 e

gone_without_at : (b : Bool) (q r h : ℕ) (g : Gone) → r ≢ h → (q == h) ≡ b → is_gone r (without h g) ≡ is_gone r g → is_gone r (if b then without h g else q ∷ without h g) ≡ is_gone r (q ∷ g)
gone_without_at true q r h g ne e rest = rest ∙ sym (other (q == r) refl (eq_is q h e))
  where
    other : (b : Bool) → (q == r) ≡ b → q ≡ h → (if b then true else is_gone r g) ≡ is_gone r g
    other true e is = absurd (ne (sym (eq_is q r e) ∙ is))
    other false e is = refl
gone_without_at false q r h g ne e rest = ap (λ x. if q == r then true else x) rest

pub gone_without : (r h : ℕ) (g : Gone) → r ≢ h → is_gone r (without h g) ≡ is_gone r g
gone_without r h [] ne = refl
gone_without r h (q ∷ g) ne = gone_without_at (q == h) q r h g ne refl (gone_without r h g ne)

here_without_at : (b : Bool) (q h : ℕ) (g : Gone) → (q == h) ≡ b → is_gone h (without h g) ≡ false → is_gone h (if b then without h g else q ∷ without h g) ≡ false
here_without_at true q h g e rest = rest
here_without_at false q h g e rest = ap (λ b. if b then true else is_gone h (without h g)) e ∙ rest

pub here_without : (h : ℕ) (g : Gone) → is_gone h (without h g) ≡ false
here_without h [] = refl
here_without h (q ∷ g) = here_without_at (q == h) q h g refl (here_without h g)

gone_other : (r q : ℕ) (g : Gone) → r ≢ q → is_gone r (q ∷ g) ≡ is_gone r g
gone_other r q g ne = by (q == r) refl
  where
    by : (b : Bool) → (q == r) ≡ b → (if b then true else is_gone r g) ≡ is_gone r g
    by true e = absurd (ne (sym (eq_is q r e)))
    by false e = refl

gone_here : (r : ℕ) (g : Gone) → is_gone r (r ∷ g) ≡ true
gone_here r g = ap (λ b. if b then true else is_gone r g) ((Decides-eqb r r).1 refl)

-- ---- a value goes to a register

-- a value goes to register h, whatever stood above
pub agrees_put : (s : Scope) (g : Gone) (l : Locals) (base base' : Base) (h k : ℕ) (v : Held) (regs : Registers) → Falls h s → h ≤ k → ((r : ℕ) → r < h → base' r ≡ base r) → Agrees k s g l base' regs → Agrees (h + 1) s g l (with_at h v base) (put regs h v)
agrees_put s g l base base' h k v regs f le same a =
    record { ties = ties_below g s l base' (with_at h v base) h f (λ r lt. one_above base h v r lt ∙ sym (same r lt)) a.ties; each = each }
  where
    below : (r : ℕ) → r < h → read (put regs h v) r ≡ look s l (with_at h v base) r
    below r lt =
        let ne : r ≢ h = omega arith in
        read_put regs h r v ∙ pick_other r h v (read regs r) ne ∙ a.each r (omega arith)
        ∙ look_same s l base' (with_at h v base) r (same r lt ∙ sym (pick_other r h v (base r) ne))

    here : read (put regs h v) h ≡ look s l (with_at h v base) h
    here =
        read_put regs h h v ∙ pick_same h v (read regs h)
        ∙ sym (look_above s l (with_at h v base) h h f (omega arith) ∙ pick_same h v (base h))

    each : (r : ℕ) → r < h + 1 → read (put regs h v) r ≡ look s l (with_at h v base) r
    each r lt =
        ⊎_elim (λ b. below r b)
        (λ ge. let e : h ≡ r = omega arith in subst (λ q. read (put regs h v) q ≡ look s l (with_at h v base) q) e here)
        (cases_lt r h)

-- the value in the register just below n
pub top_read : (s : Scope) (g : Gone) (l : Locals) (base : Base) (h n : ℕ) (v : Held) (regs : Registers) → Falls h s → h < n → Agrees n s g l (with_at h v base) regs → read regs h ≡ v
top_read s g l base h n v regs f lt a =
    a.each h lt ∙ look_above s l (with_at h v base) h h f (omega arith) ∙ pick_same h v (base h)

-- and the one below it
pub next_read : (s : Scope) (g : Gone) (l : Locals) (base : Base) (h n : ℕ) (x y : Held) (regs : Registers) → Falls h s → h < n → Agrees n s g l (with_at (h + 1) y (with_at h x base)) regs → read regs h ≡ x
next_read s g l base h n x y regs f lt a =
    let ne : h ≢ h + 1 = omega arith in
    a.each h lt ∙ look_above s l (with_at (h + 1) y (with_at h x base)) h h f (omega arith)
    ∙ pick_other h (h + 1) y (with_at h x base h) ne ∙ pick_same h x (base h)

-- fewer registers, and another base that says the same of them; what stands above may have changed
pub agrees_down : (s : Scope) (g : Gone) (l : Locals) (base base' : Base) (h k : ℕ) (regs regs' : Registers) → Falls h s → h ≤ k → ((r : ℕ) → r < h → base' r ≡ base r) → ((r : ℕ) → r < h → read regs' r ≡ read regs r) → Agrees k s g l base' regs → Agrees h s g l base regs'
agrees_down s g l base base' h k regs regs' f le same kept a = record {
  ties = ties_below g s l base' base h f (λ r lt. sym (same r lt)) a.ties;
  each = λ r lt. kept r lt ∙ a.each r (omega arith) ∙ look_same s l base' base r (same r lt);
}

pub look_dest : (s : Scope) (l : Locals) (base : Base) (d r : ℕ) (v : Held) → Fresh d s → pick r d v (look s l base r) ≡ look s l (with_at d v base) r
look_dest [] l base d r v f = refl
look_dest (x ∷ s) [] base d r v f = refl
look_dest (x ∷ s) (y ∷ l) base d r v f =
    local_swap x.name r d x.register v y.value (look s l base r) f.0 ∙ ap (pick_local x.name r x.register y.value) (look_dest s l base d r v f.1)

-- a value goes to a register that no local has
pub agrees_dest : (s : Scope) (g : Gone) (l : Locals) (base base' : Base) (d h k : ℕ) (v : Held) (regs regs' : Registers) → Falls h s → Fresh d s → h ≤ k → ((r : ℕ) → r < h → base' r ≡ base r) → ((r : ℕ) → r < h → read regs' r ≡ read regs r) → Agrees k s g l base' regs → Agrees h s g l (with_at d v base) (put regs' d v)
agrees_dest s g l base base' d h k v regs regs' fa f le same kept a = record {
  ties = ties_dest g s l base d v f (ties_below g s l base' base h fa (λ r lt. sym (same r lt)) a.ties);
  each = λ r lt. read_put regs' d r v ∙ ap (pick r d v) (kept r lt ∙ a.each r (omega arith) ∙ look_same s l base' base r (same r lt)) ∙ look_dest s l base d r v f;
}

-- the later value of a register counts
pub agrees_once : (s : Scope) (g : Gone) (l : Locals) (base : Base) (d h : ℕ) (a b : Held) (regs : Registers) → Agrees h s g l (with_at d a (with_at d b base)) regs → Agrees h s g l (with_at d a base) regs
agrees_once s g l base d h a b regs ag = record {
  ties = ties_every g s l (with_at d a (with_at d b base)) (with_at d a base) (λ r. sym (pick_twice r d a b (base r))) ag.ties;
  each = λ r lt. ag.each r lt ∙ look_same s l (with_at d a (with_at d b base)) (with_at d a base) r (pick_twice r d a b (base r));
}

-- ---- scopes

holds_new : (q : Gives) (v : Value) → Fits q (Some v) → Holds (is_owner q) false (Some v)
holds_new void v f = absurd f
holds_new copy v f = f
holds_new owner v f = f

-- the value in register h becomes a local
pub agrees_push : (s : Scope) (g : Gone) (l : Locals) (base : Base) (h n : ℕ) (q : Gives) (v : Value) (regs : Registers) → Fits q (Some v) → Falls h s → Agrees (h + 1) s g l (with_at h (Some v) base) regs → Agrees (h + 1) (entry n h q ∷ s) (without h g) (record { name = Some n; value = Some v; owned = is_owner q } ∷ l) base regs
agrees_push s g l base h n q v regs p f a = record {
  ties = (
    refl,
    subst (λ b. Holds (is_owner q) b (Some v)) (sym (here_without h g)) (holds_new q v p),
    tt,
    ties_gone g (without h g) s l base h f (λ r lt. gone_without r h g (omega arith)) (ties_below g s l (with_at h (Some v) base) base h f (λ r lt. sym (one_above base h (Some v) r lt)) a.ties),
    refl,
  );
  each = λ r lt. a.each r lt ∙ sym (look_dest s l base h r (Some v) (fresh_above s h h f (omega arith)));
}

pub agrees_pop : (s : Scope) (g : Gone) (l : Locals) (base : Base) (h n : ℕ) (q : Gives) (regs regs' : Registers) → ((r : ℕ) → r < h → read regs' r ≡ read regs r) → Agrees (h + 1) (entry n h q ∷ s) g l base regs → Agrees h s g (outer l) base regs'
agrees_pop s g [] base h n q regs regs' kept a = absurd a.ties
agrees_pop s g (y ∷ l) base h n q regs regs' kept a =
    record { ties = a.ties.3; each = λ r lt. let ne : r ≢ h = omega arith in kept r lt ∙ a.each r (omega arith) ∙ pick_other r h y.value (look s l base r) ne }

-- a value waits in its register
pub agrees_wait : (s : Scope) (g : Gone) (l : Locals) (base : Base) (h : ℕ) (q : Gives) (v : Value) (regs : Registers) → Fits q (Some v) → Falls h s → Agrees (h + 1) s g l (with_at h (Some v) base) regs → Agrees (h + 1) (waiting h q ∷ s) (without h g) (record { name = None; value = Some v; owned = is_owner q } ∷ l) (with_at h (Some v) base) regs
agrees_wait s g l base h q v regs p f a = record {
  ties = (
    refl,
    subst (λ b. Holds (is_owner q) b (Some v)) (sym (here_without h g)) (holds_new q v p),
    pick_same h (Some v) (base h),
    ties_gone g (without h g) s l (with_at h (Some v) base) h f (λ r lt. gone_without r h g (omega arith)) a.ties,
    refl,
  );
  each = a.each;
}

pub agrees_done : (s : Scope) (g : Gone) (l : Locals) (base : Base) (h k : ℕ) (q : Gives) (regs : Registers) → Agrees k (waiting h q ∷ s) g l base regs → Agrees k s g (outer l) base regs
agrees_done s g [] base h k q regs a = absurd a.ties
agrees_done s g (y ∷ l) base h k q regs a = record { ties = a.ties.3; each = a.each }

-- ---- a local by its name

abbrev pub Meets : ℕ → Scope → Gone → Locals → Option Entry → Held → Type 0
Meets h s g l None u = Unit {0}
Meets h s g l (Some x) u = (x.register < h) × Holds x.owned (is_gone x.register g) u × ((base : Base) → look s l base x.register ≡ u)

named_pick : (n : ℕ) (m : Option ℕ) (r : ℕ) (v b : Held) → has_name n m ≡ true → pick_local m r r v b ≡ v
named_pick n None r v b is = absurd (cc)
named_pick n (Some k) r v b is = pick_same r v b

meets_deeper : (h : ℕ) (x : Entry) (y : Local) (s : Scope) (g : Gone) (l : Locals) (o : Option Entry) (u : Held) → x.register < h → Meets x.register s g l o u → Meets h (x ∷ s) g (y ∷ l) o u
meets_deeper h x y s g l None u lt m = tt
meets_deeper h x y s g l (Some z) u lt m =
    let ne : z.register ≢ x.register = omega (arith, m.0) in
    (omega (arith, m.0), m.1, λ base. local_other x.name z.register x.register y.value (look s l base z.register) ne ∙ m.2 base)

meets_at : (b : Bool) (h n : ℕ) (x : Entry) (y : Local) (s : Scope) (g : Gone) (l : Locals) (o : Option Entry) (u : Held) → has_name n x.name ≡ b → x.register < h → Holds x.owned (is_gone x.register g) y.value → Meets x.register s g l o u → Meets h (x ∷ s) g (y ∷ l) (if b then Some x else o) (if b then y.value else u)
meets_at true h n x y s g l o u is lt p m = (lt, p, λ base. named_pick n x.name x.register y.value (look s l base x.register) is)
meets_at false h n x y s g l o u is lt p m = meets_deeper h x y s g l o u lt m

pub meets : (n h : ℕ) (s : Scope) (g : Gone) (l : Locals) (base : Base) → Falls h s → Ties g s l base → Meets h s g l (find n s) (held_by n l)
meets n h [] g [] base f m = tt
meets n h [] g (y ∷ l) base f m = absurd m
meets n h (x ∷ s) g [] base f m = absurd m
meets n h (x ∷ s) g (y ∷ l) base f m =
    let same = meets_at (has_name n x.name) h n x y s g l (find n s) (held_by n l) refl f.0 m.1 (meets n x.register s g l base f.1 m.3) in
    subst (λ q. Meets h (x ∷ s) g (y ∷ l) (if has_name n x.name then Some x else find n s) (if has_name n q then y.value else held_by n l)) m.0 same

-- an owner leaves its local
abbrev pub Empties : ℕ → Scope → Gone → Locals → Base → Option Entry → Locals → Type 0
Empties h s g l base None l' = Unit {0}
Empties h s g l base (Some x) l' = (x.register < h) × (x.owned ≡ true → Ties (x.register ∷ g) s l' base) × ((q : ℕ) (b : Base) → look s l' b q ≡ pick q x.register None (look s l b q))

empties_deeper : (h : ℕ) (x : Entry) (y : Local) (s : Scope) (g : Gone) (l l' : Locals) (base : Base) (o : Option Entry) → x.register < h → Ties g (x ∷ s) (y ∷ l) base → Empties x.register s g l base o l' → Empties h (x ∷ s) g (y ∷ l) base o (y ∷ l')
empties_deeper h x y s g l l' base None lt t m = tt
empties_deeper h x y s g l l' base (Some z) lt t m =
    let ne : x.register ≢ z.register = omega (arith, m.0) in
    let ne' : z.register ≢ x.register = omega (arith, m.0) in (
      omega (arith, m.0),
      λ own. (t.0, subst (λ b. Holds x.owned b y.value) (sym (gone_other x.register z.register g ne)) t.1, t.2, m.1 own, t.4),
      λ q b. ap (pick_local x.name q x.register y.value) (m.2 q b) ∙ sym (local_swap x.name q z.register x.register None y.value (look s l b q) ne'),
    )

empties_at : (b : Bool) (h n : ℕ) (x : Entry) (y : Local) (s : Scope) (g : Gone) (l l' : Locals) (base : Base) (o : Option Entry) → has_name n x.name ≡ b → x.register < h → Falls x.register s → Ties g (x ∷ s) (y ∷ l) base → Empties x.register s g l base o l' → Empties h (x ∷ s) g (y ∷ l) base (if b then Some x else o) (if b then (record y { value = None } ∷ l) else (y ∷ l'))
empties_at true h n x y s g l l' base o is lt f t m = (
  lt,
  λ own. (
    t.0,
    subst (λ b. Holds b (is_gone x.register (x.register ∷ g)) None) (sym own) (subst (λ b. Holds true b None) (sym (gone_here x.register g)) tt),
    waits x.name is,
    ties_gone g (x.register ∷ g) s l base x.register f (λ r less. gone_other r x.register g (omega arith)) t.3,
    t.4,
  ),
  λ q b. looks x.name is q b,
)
  where
    waits : (m : Option ℕ) → has_name n m ≡ true → Waits m base x.register None
    waits None is = absurd (cc)
    waits (Some k) is = tt

    looks : (m : Option ℕ) → has_name n m ≡ true → (q : ℕ) (b : Base) → pick_local m q x.register None (look s l b q) ≡ pick q x.register None (pick_local m q x.register y.value (look s l b q))
    looks None is q b = absurd (cc)
    looks (Some k) is q b = sym (pick_twice q x.register None y.value (look s l b q))
empties_at false h n x y s g l l' base o is lt f t m = empties_deeper h x y s g l l' base o lt t m

pub empties : (n h : ℕ) (s : Scope) (g : Gone) (l : Locals) (base : Base) → Falls h s → Ties g s l base → Empties h s g l base (find n s) (with_held n None l)
empties n h [] g [] base f m = tt
empties n h [] g (y ∷ l) base f m = absurd m
empties n h (x ∷ s) g [] base f m = absurd m
empties n h (x ∷ s) g (y ∷ l) base f m =
    let same = empties_at (has_name n x.name) h n x y s g l (with_held n None l) base (find n s) refl f.0 f.1 m (empties n x.register s g l base f.1 m.3) in
    subst (λ q. Empties h (x ∷ s) g (y ∷ l) base (if has_name n x.name then Some x else find n s) (if has_name n q then (record y { value = None } ∷ l) else (y ∷ with_held n None l))) m.0 same

pub agrees_emptied : (s : Scope) (g : Gone) (l l' : Locals) (base : Base) (h : ℕ) (x : Entry) (regs : Registers) → x.owned ≡ true → Empties h s g l base (Some x) l' → Agrees h s g l base regs → Agrees h s (x.register ∷ g) l' base (put regs x.register None)
agrees_emptied s g l l' base h x regs own c a =
    record { ties = c.1 own; each = λ q lt. read_put regs x.register q None ∙ ap (pick q x.register None) (a.each q lt) ∙ sym (c.2 q base) }

-- ---- each entry's register

-- each local and each value that waits stands in its register
abbrev pub Stands : Scope → Gone → Locals → Registers → Type 0
Stands [] g [] regs = Unit {0}
Stands [] g (y ∷ l) regs = ⊥
Stands (x ∷ s) g [] regs = ⊥
Stands (x ∷ s) g (y ∷ l) regs = (read regs x.register ≡ y.value) × Holds x.owned (is_gone x.register g) y.value × Stands s g l regs × (x.owned ≡ y.owned)

pub stands_kept : (s : Scope) (g : Gone) (l : Locals) (regs regs' : Registers) (h : ℕ) → Falls h s → ((r : ℕ) → r < h → read regs' r ≡ read regs r) → Stands s g l regs → Stands s g l regs'
stands_kept [] g [] regs regs' h f e st = tt
stands_kept [] g (y ∷ l) regs regs' h f e st = absurd st
stands_kept (x ∷ s) g [] regs regs' h f e st = absurd st
stands_kept (x ∷ s) g (y ∷ l) regs regs' h f e st =
    (e x.register f.0 ∙ st.0, st.1, stands_kept s g l regs regs' x.register f.1 (λ r lt. e r (omega (arith, f.0))) st.2, st.3)

stands_by : (s : Scope) (g : Gone) (l : Locals) (base : Base) (h : ℕ) (regs : Registers) → Falls h s → Ties g s l base → ((r : ℕ) → r < h → read regs r ≡ look s l base r) → Stands s g l regs
stands_by [] g [] base h regs f t e = tt
stands_by [] g (y ∷ l) base h regs f t e = absurd t
stands_by (x ∷ s) g [] base h regs f t e = absurd t
stands_by (x ∷ s) g (y ∷ l) base h regs f t e = (
  e x.register f.0 ∙ here x.name t.2,
  t.1,
  stands_by s g l base x.register regs f.1 t.3 (λ r lt. let ne : r ≢ x.register = omega arith in e r (omega (arith, f.0)) ∙ local_other x.name r x.register y.value (look s l base r) ne),
  t.4,
)
  where
    here : (m : Option ℕ) → Waits m base x.register y.value → pick_local m x.register x.register y.value (look s l base x.register) ≡ y.value
    here None w = look_above s l base x.register x.register f.1 (omega arith) ∙ w
    here (Some k) w = pick_same x.register y.value (look s l base x.register)

pub stands : (s : Scope) (g : Gone) (l : Locals) (base : Base) (h k : ℕ) (regs : Registers) → Falls h s → h ≤ k → Agrees k s g l base regs → Stands s g l regs
stands s g l base h k regs f le a = stands_by s g l base h regs f a.ties (λ r lt. a.each r (omega arith))

-- the values of a call
pub all_stand : (s : Scope) (g : Gone) (l : Locals) (vs : List Value) (h k n : ℕ) (base : Base) (regs : Registers) → Falls k s → k ≤ h → h + length vs ≤ n → Agrees n s g l (with_all h vs base) regs → Stand h vs regs
all_stand s g l [] h k n base regs f le lt a = tt
all_stand s g l (v ∷ vs) h k n base regs f le lt a = (
  a.each h (omega arith) ∙ look_above s l (with_all (h + 1) vs (with_at h (Some v) base)) k h f le
      ∙ with_all_below (h + 1) vs (with_at h (Some v) base) h (omega arith) ∙ pick_same h (Some v) (base h),
  all_stand s g l vs (h + 1) k n (with_at h (Some v) base) regs f (omega arith) (omega arith) a,
)

-- one register more, whatever it holds
pub agrees_more : (s : Scope) (g : Gone) (l : Locals) (base : Base) (h : ℕ) (regs : Registers) → Falls h s → Agrees h s g l base regs → Agrees (h + 1) s g l (with_at h (read regs h) base) regs
agrees_more s g l base h regs f a =
    record { ties = ties_below g s l base (with_at h (read regs h) base) h f (λ r lt. one_above base h (read regs h) r lt) a.ties; each = each }
  where
    here : read regs h ≡ look s l (with_at h (read regs h) base) h
    here = sym (look_above s l (with_at h (read regs h) base) h h f (omega arith) ∙ pick_same h (read regs h) (base h))

    each : (r : ℕ) → r < h + 1 → read regs r ≡ look s l (with_at h (read regs h) base) r
    each r lt =
        ⊎_elim (λ b. a.each r b ∙ look_same s l base (with_at h (read regs h) base) r (sym (one_above base h (read regs h) r b)))
        (λ ge. let e : h ≡ r = omega arith in subst (λ q. read regs q ≡ look s l (with_at h (read regs h) base) q) e here)
        (cases_lt r h)

-- the innermost local
pub agrees_top : (s : Scope) (g : Gone) (l : Locals) (base : Base) (h n : ℕ) (q : Gives) (regs : Registers) → Agrees (h + 1) (entry n h q ∷ s) g l base regs → (read regs h ≡ innermost l) × Holds (is_owner q) (is_gone h g) (innermost l)
agrees_top s g [] base h n q regs a = absurd a.ties
agrees_top s g (y ∷ l) base h n q regs a = (a.each h (omega arith) ∙ pick_same h y.value (look s l base h), a.ties.1)

-- ---- the set of a local

-- a local gets another value
abbrev pub Takes : ℕ → Scope → Gone → Locals → Base → Held → Option Entry → Locals → Type 0
Takes h s g l base v None l' = Unit {0}
Takes h s g l base v (Some x) l' = (x.register < h) × (Holds x.owned (is_gone x.register g) v → Ties g s l' base) × ((q : ℕ) (b : Base) → look s l' b q ≡ pick q x.register v (look s l b q))

takes_deeper : (h : ℕ) (x : Entry) (y : Local) (s : Scope) (g : Gone) (l l' : Locals) (base : Base) (v : Held) (o : Option Entry) → x.register < h → Ties g (x ∷ s) (y ∷ l) base → Takes x.register s g l base v o l' → Takes h (x ∷ s) g (y ∷ l) base v o (y ∷ l')
takes_deeper h x y s g l l' base v None lt t m = tt
takes_deeper h x y s g l l' base v (Some z) lt t m =
    let ne' : z.register ≢ x.register = omega (arith, m.0) in (
      omega (arith, m.0),
      λ own. (t.0, t.1, t.2, m.1 own, t.4),
      λ q b. ap (pick_local x.name q x.register y.value) (m.2 q b) ∙ sym (local_swap x.name q z.register x.register v y.value (look s l b q) ne'),
    )

takes_at : (b : Bool) (h n : ℕ) (x : Entry) (y : Local) (s : Scope) (g : Gone) (l l' : Locals) (base : Base) (v : Held) (o : Option Entry) → has_name n x.name ≡ b → x.register < h → Ties g (x ∷ s) (y ∷ l) base → Takes x.register s g l base v o l' → Takes h (x ∷ s) g (y ∷ l) base v (if b then Some x else o) (if b then (record y { value = v } ∷ l) else (y ∷ l'))
takes_at true h n x y s g l l' base v o is lt t m = (lt, λ hold. (t.0, hold, waits x.name is, t.3, t.4), λ q b. looks x.name is q b)
  where
    waits : (m : Option ℕ) → has_name n m ≡ true → Waits m base x.register v
    waits None is = absurd (cc)
    waits (Some k) is = tt

    looks : (m : Option ℕ) → has_name n m ≡ true → (q : ℕ) (b : Base) → pick_local m q x.register v (look s l b q) ≡ pick q x.register v (pick_local m q x.register y.value (look s l b q))
    looks None is q b = absurd (cc)
    looks (Some k) is q b = sym (pick_twice q x.register v y.value (look s l b q))
takes_at false h n x y s g l l' base v o is lt t m = takes_deeper h x y s g l l' base v o lt t m

pub takes : (n h : ℕ) (s : Scope) (g : Gone) (l : Locals) (base : Base) (v : Held) → Falls h s → Ties g s l base → Takes h s g l base v (find n s) (with_held n v l)
takes n h [] g [] base v f m = tt
takes n h [] g (y ∷ l) base v f m = absurd m
takes n h (x ∷ s) g [] base v f m = absurd m
takes n h (x ∷ s) g (y ∷ l) base v f m =
    let same = takes_at (has_name n x.name) h n x y s g l (with_held n v l) base v (find n s) refl f.0 m (takes n x.register s g l base v f.1 m.3) in
    subst (λ q. Takes h (x ∷ s) g (y ∷ l) base v (if has_name n x.name then Some x else find n s) (if has_name n q then (record y { value = v } ∷ l) else (y ∷ with_held n v l))) m.0 same

pub same_or_not : (q r : ℕ) → (q ≡ r) ⊎ (q ≢ r)
same_or_not zero zero = inl refl
same_or_not zero (suc r) = inr (λ e. let f : ⊥ = cc in f)
same_or_not (suc q) zero = inr (λ e. let f : ⊥ = cc in f)
same_or_not (suc q) (suc r) = ⊎_elim (λ e. inl (ap suc e)) (λ ne. inr (λ e. let f : q ≡ r = cc in ne f)) (same_or_not q r)

-- whatever way the value came there
pub agrees_taken : (s : Scope) (g : Gone) (l l' : Locals) (base : Base) (h : ℕ) (x : Entry) (v : Held) (regs regs' : Registers) → Holds x.owned (is_gone x.register g) v → Takes h s g l base v (Some x) l' → Agrees h s g l base regs → read regs' x.register ≡ v → ((q : ℕ) → q < h → q ≢ x.register → read regs' q ≡ read regs q) → Agrees h s g l' base regs'
agrees_taken s g l l' base h x v regs regs' hold t a here other = record { ties = t.1 hold; each = λ q lt. ⊎_elim (λ e. same q e) (λ ne. others q lt ne) (same_or_not q x.register) }
  where
    same : (q : ℕ) → q ≡ x.register → read regs' q ≡ look s l' base q
    same q e = subst (λ z. read regs' z ≡ look s l' base z) (sym e) (here ∙ sym (t.2 x.register base ∙ pick_same x.register v (look s l base x.register)))

    others : (q : ℕ) → q < h → q ≢ x.register → read regs' q ≡ look s l' base q
    others q lt ne = other q lt ne ∙ a.each q lt ∙ sym (t.2 q base ∙ pick_other q x.register v (look s l base q) ne)

-- ---- several values at once

with_all_same : (h : ℕ) (vs : List Value) (b c : Base) (r : ℕ) → ((q : ℕ) → b q ≡ c q) → with_all h vs b r ≡ with_all h vs c r
with_all_same h [] b c r e = e r
with_all_same h (v ∷ vs) b c r e = with_all_same (h + 1) vs (with_at h (Some v) b) (with_at h (Some v) c) r (λ q. ap (pick q h (Some v)) (e q))

all_swap : (k : ℕ) (vs : List Value) (h : ℕ) (a : Held) (base : Base) (r : ℕ) → h < k → with_all k vs (with_at h a base) r ≡ pick r h a (with_all k vs base r)
all_swap k [] h a base r lt = refl
all_swap k (v ∷ vs) h a base r lt =
    let ne : k ≢ h = omega arith in
    with_all_same (k + 1) vs (with_at k (Some v) (with_at h a base)) (with_at h a (with_at k (Some v) base)) r (λ q. pick_swap q k h (Some v) a (base q) ne)
    ∙ all_swap (k + 1) vs h a (with_at k (Some v) base) r (omega arith)

-- the first of several values becomes a local
pub agrees_push_first : (s : Scope) (g : Gone) (l : Locals) (base : Base) (h k n : ℕ) (q : Gives) (v : Value) (vs : List Value) (regs : Registers) → Fits q (Some v) → Falls h s → Agrees k s g l (with_all (h + 1) vs (with_at h (Some v) base)) regs → Agrees k (entry n h q ∷ s) (without h g) (record { name = Some n; value = Some v; owned = is_owner q } ∷ l) (with_all (h + 1) vs base) regs
agrees_push_first s g l base h k n q v vs regs p f a = record {
  ties = (
    refl,
    subst (λ b. Holds (is_owner q) b (Some v)) (sym (here_without h g)) (holds_new q v p),
    tt,
    ties_gone g (without h g) s l (with_all (h + 1) vs base) h f (λ r lt. gone_without r h g (omega arith))
        (ties_below g s l (with_all (h + 1) vs (with_at h (Some v) base)) (with_all (h + 1) vs base) h f
        (λ r lt. with_all_below (h + 1) vs base r (omega arith) ∙ sym (with_all_below (h + 1) vs (with_at h (Some v) base) r (omega arith) ∙ one_above base h (Some v) r lt)) a.ties),
    refl,
  );
  each = λ r lt. a.each r lt ∙ look_same s l (with_all (h + 1) vs (with_at h (Some v) base)) (with_at h (Some v) (with_all (h + 1) vs base)) r (all_swap (h + 1) vs h (Some v) base r (omega arith))
      ∙ sym (look_dest s l (with_all (h + 1) vs base) h r (Some v) (fresh_above s h h f (omega arith)));
}

pub agrees_all : (s : Scope) (g : Gone) (l : Locals) (vs : List Value) (h : ℕ) (base : Base) (regs : Registers) → Falls h s → Stand h vs regs → Agrees h s g l base regs → Agrees (h + length vs) s g l (with_all h vs base) regs
agrees_all s g l [] h base regs f st a = let e : h ≡ h + 0 = omega arith in subst (λ k. Agrees k s g l base regs) e a
agrees_all s g l (v ∷ vs) h base regs f st a =
    let e : h + 1 + length vs ≡ h + suc (length vs) = omega arith in
    let one : Agrees (h + 1) s g l (with_at h (Some v) base) regs = subst (λ o. Agrees (h + 1) s g l (with_at h o base) regs) st.0 (agrees_more s g l base h regs f a) in
    subst (λ k. Agrees k s g l (with_all (h + 1) vs (with_at h (Some v) base)) regs) e
    (agrees_all s g l vs (h + 1) (with_at h (Some v) base) regs (falls_up s h (h + 1) (omega arith) f) st.1 one)

pub agrees_read : (k : ℕ) (s : Scope) (g : Gone) (l : Locals) (base : Base) (regs regs' : Registers) → ((r : ℕ) → read regs' r ≡ read regs r) → Agrees k s g l base regs → Agrees k s g l base regs'
agrees_read k s g l base regs regs' e a = record { ties = a.ties; each = λ r lt. e r ∙ a.each r lt }

-- an owner is a value of the type of an owner or an isolate
pub owner_is : (x : Ty) → is_owner (gives_of x) ≡ is_owned x
owner_is y.void = refl
owner_is y.int = refl
owner_is y.bool = refl
owner_is y.str = refl
owner_is (y.kind m) = refl
owner_is (y.array x) = refl
owner_is (y.ref x) = refl
owner_is (y.imm x) = refl
owner_is (y.iso x) = refl
