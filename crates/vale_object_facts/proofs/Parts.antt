-- How the walk goes through parts of the tree, from how it goes through their own parts.
use Rattle.std.proofs.Common.{◌≡◌, ℕ, ◌+◌, List, [], ◌∷◌, ◌++◌, length, Bool, true, false, if◌then◌else◌, refl, sym, ap, ◌∙◌, subst, arith}
use Rattle.std.proofs.lemmas.Bool.{and_parts}
use Rattle.vale_base.specs.declared.spot.Spot.{Spot}
use Rattle.vale_syntax.specs.declared.tree.BinaryOp.{BinaryOp}
use Rattle.vale_syntax.specs.declared.tree.BinaryOp.TheVariants as op
use Rattle.vale_rules_spec.specs.TypeRules.{is_bool, takes_operands, link_gives}
use Rattle.vale_rules_spec.specs.Types.{Ty}
use Rattle.vale_rules_spec.specs.Types as y
use Rattle.vale_rules_spec.specs.Typing.{Env}
use Rattle.vale_code.specs.declared.instr.Instr.{Instr}
use Rattle.vale_code.specs.declared.instr.Instr.TheVariants as i
use Rattle.vale_cert.specs.Known.{is_free}
use Rattle.vale_cert.specs.declared.facts.RegFact.TheVariants.{Empty}
use Rattle.vale_lowering.specs.Instructions.{only_if, operator}
use Rattle.vale_lowering_objects.specs.Lowered.{then_code, jump_over, sides, turns_code, loop_after, link_code, link_after}
use Rattle.vale_lowering_objects.specs.Scopes.{Gives, void, copy, owner, gives_of, is_value, agree, Gone, After, comes, never, then_after, met, may_meet, closes}
use Rattle.vale_object_facts.specs.Slots.{Stand, scope_at, with_gone, holding, given}
use Rattle.vale_object_facts.specs.Stands.{Stands as Marks, then_stands, sides_stands, turns_stands, link_stands}
use Rattle.vale_object_facts.proofs.Agreeing.{agrees_same}
use Rattle.vale_object_facts.proofs.Covering.{Site, at, held, Says, says_same, says_then, says_gone, says_holding, says_given, says_less, holding_here, holding_there}
use Rattle.vale_object_facts.proofs.Locals.{Stands, none_at, stands_gone}
use Rattle.vale_object_facts.proofs.Operators.{operands_plain, is_plain, operator_runs, bool_is}
use Rattle.vale_object_facts.proofs.Runs.{End, falls, ending, Runs, runs_less, nothing}
use Rattle.vale_object_facts.proofs.Turns.{Meets, sides_runs, and_runs, loop_runs}
use Rattle.vale_object_facts.proofs.Ways.{Clean, clean_both, then_runs, ending_none}

-- ---- sorts of values

pub value_some : (x : Ty) → is_value (gives_of x) ≡ true → y.is_void x ≡ false
value_some y.void e = absurd (cc)
value_some y.int e = refl
value_some y.bool e = refl
value_some y.str e = refl
value_some (y.kind n) e = refl
value_some (y.array x) e = refl
value_some (y.ref x) e = refl
value_some (y.imm x) e = refl
value_some (y.iso x) e = refl

pub copy_some : (x : Ty) → agree copy (gives_of x) ≡ true → (y.is_void x ≡ false) × (y.is_owned x ≡ false)
copy_some y.void e = absurd (cc)
copy_some y.int e = (refl, refl)
copy_some y.bool e = (refl, refl)
copy_some y.str e = (refl, refl)
copy_some (y.kind n) e = absurd (cc)
copy_some (y.array x) e = absurd (cc)
copy_some (y.ref x) e = (refl, refl)
copy_some (y.imm x) e = (refl, refl)
copy_some (y.iso x) e = absurd (cc)

pub agree_is : (q r : Gives) → agree q r ≡ true → q ≡ r
agree_is void void e = refl
agree_is copy copy e = refl
agree_is owner owner e = refl
agree_is void copy e = absurd (cc)
agree_is void owner e = absurd (cc)
agree_is copy void e = absurd (cc)
agree_is copy owner e = absurd (cc)
agree_is owner void e = absurd (cc)
agree_is owner copy e = absurd (cc)

pub agree_self : (q : Gives) → agree q q ≡ true
agree_self void = refl
agree_self copy = refl
agree_self owner = refl

pub copy_value : (x : Ty) → agree copy (gives_of x) ≡ true → is_value (gives_of x) ≡ true
copy_value y.void e = absurd (cc)
copy_value y.int e = refl
copy_value y.bool e = refl
copy_value y.str e = refl
copy_value (y.kind n) e = refl
copy_value (y.array x) e = refl
copy_value (y.ref x) e = refl
copy_value (y.imm x) e = refl
copy_value (y.iso x) e = refl

-- a type that gives a copied value
pub copy_of : (x : Ty) → gives_of x ≡ copy → (y.is_void x ≡ false) × (y.is_owned x ≡ false)
copy_of x e = copy_some x (ap (agree copy) e)

pub owner_of : (x : Ty) → gives_of x ≡ owner → y.is_owned x ≡ true
owner_of y.void e = absurd (cc)
owner_of y.int e = absurd (cc)
owner_of y.bool e = absurd (cc)
owner_of y.str e = absurd (cc)
owner_of (y.kind n) e = refl
owner_of (y.array x) e = refl
owner_of (y.ref x) e = absurd (cc)
owner_of (y.imm x) e = absurd (cc)
owner_of (y.iso x) e = refl

pub owned_some : (x : Ty) → y.is_owned x ≡ true → y.is_void x ≡ false
owned_some y.void e = absurd (cc)
owned_some y.int e = absurd (cc)
owned_some y.bool e = absurd (cc)
owned_some y.str e = absurd (cc)
owned_some (y.kind n) e = refl
owned_some (y.array x) e = refl
owned_some (y.ref x) e = absurd (cc)
owned_some (y.imm x) e = absurd (cc)
owned_some (y.iso x) e = refl

module _ (k : Site) where
  -- code that is chosen
  pub chosen : {p : ℕ} {cs : List Instr} {ms : Marks} {s : Stand} {e : End} (b : Bool) (h : ℕ) → Clean (only_if b h cs) → (b ≡ true → Clean cs → Runs k p cs ms s e) → Runs k p (only_if b h cs) ms s e
  chosen true h c f = f refl c
  chosen false h c f = absurd (cc)

  by_void : {p : ℕ} {cs : List Instr} {ms : Marks} {s : Stand} (o : After) (h : ℕ) (x : Ty) (u : Gone → Stand) (b : Bool) → b ≡ false → Runs k p cs ms s (ending o (λ g. holding h x (u g))) → Runs k p cs ms s (ending o (λ g. if b then u g else holding h x (u g)))
  by_void o h x u false e r = r
  by_void o h x u true e r = absurd (cc)

  -- a value is given where there is one
  pub as_given : {p : ℕ} {cs : List Instr} {ms : Marks} {s : Stand} (o : After) (h : ℕ) (x : Ty) (u : Gone → Stand) → y.is_void x ≡ false → Runs k p cs ms s (ending o (λ g. holding h x (u g))) → Runs k p cs ms s (ending o (λ g. given h x (u g)))
  as_given o h x u e r = by_void o h x u (y.is_void x) e r

  by_some : {p : ℕ} {cs : List Instr} {ms : Marks} {s : Stand} (o : After) (h : ℕ) (x : Ty) (u : Gone → Stand) (b : Bool) → b ≡ false → Runs k p cs ms s (ending o (λ g. if b then u g else holding h x (u g))) → Runs k p cs ms s (ending o (λ g. holding h x (u g)))
  by_some o h x u false e r = r
  by_some o h x u true e r = absurd (cc)

  pub as_value : {p : ℕ} {cs : List Instr} {ms : Marks} {s : Stand} (o : After) (h : ℕ) (x : Ty) (u : Gone → Stand) → y.is_void x ≡ false → Runs k p cs ms s (ending o (λ g. given h x (u g))) → Runs k p cs ms s (ending o (λ g. holding h x (u g)))
  as_value o h x u e r = by_some o h x u (y.is_void x) e r

  -- where nothing more is gone
  pub says_still : (s : Stand) → Says k s (with_gone s.gone s)
  says_still s = record { depth = refl; each = λ r. agrees_same (at k s r) }

  -- the first free register, behind a value at hand
  pub next_free : {env : Env} {h : ℕ} {s : Stand} (x : Ty) → Stands k env h s → (g : Gone) → at k (holding h x (with_gone g s)) (h + 1) ≡ Empty
  next_free {h = h} {s} x st g = holding_there k h x (with_gone g s) (h + 1) (omega arith) ∙ none_at k (h + 1) (stands_gone k g st) (omega arith)

  -- ---- an operator and its operand

  module _ (env : Env) (h : ℕ) (s : Stand) (st : Stands k env h s) (a b z : Ty) (spot : Spot) (operand : ℕ → ℕ → Gone → List Instr) (marks : ℕ → Stand → Marks) (after : ℕ → Gone → After) where
    -- the operand's own code: above the value, and in its place
    abbrev pub Above : Type 0
    Above = (p : ℕ) → Clean (operand p (h + 1) s.gone) → Runs k p (operand p (h + 1) s.gone) (marks (h + 1) (holding h a s)) (holding h a s) (ending (after (h + 1) s.gone) (λ g. holding (h + 1) b (holding h a (with_gone g s))))

    abbrev pub Here : Type 0
    Here = (p : ℕ) → Clean (operand p h s.gone) → Runs k p (operand p h s.gone) (marks h s) s (ending (after h s.gone) (λ g. holding h b (with_gone g s)))

    operator_same : (o : BinaryOp) → z ≡ link_gives o a → operator o a spot h ≡ operator o z spot h
    operator_same op.Or e = refl
    operator_same op.And e = refl
    operator_same op.Equal e = refl
    operator_same op.NotEqual e = refl
    operator_same op.Less e = refl
    operator_same op.LessEqual e = refl
    operator_same op.Greater e = refl
    operator_same op.GreaterEqual e = refl
    operator_same op.Add e = ap (λ t. operator op.Add t spot h) (sym e)
    operator_same op.Sub e = refl
    operator_same op.Mul e = refl
    operator_same op.Div e = refl
    operator_same op.Rem e = refl

    abbrev op_code : ℕ → BinaryOp → List Instr
    op_code p o = then_code p (h + 2) (operand p (h + 1) s.gone) (after (h + 1) s.gone) (λ place g. operator o z spot h ∷ [])

    abbrev op_marks : Marks
    op_marks = then_stands (h + 2) (marks (h + 1) (holding h a s)) (after (h + 1) s.gone) (λ g. holding (h + 1) b (holding h a (with_gone g s))) (λ g. holding (h + 1) b (holding h a (with_gone g s)) ∷ []) (λ g. comes g) (λ g. holding h z (with_gone g s))

    then_comes : (o : After) (u : Gone → Stand) → ending (then_after o (λ g. comes g)) u ≡ ending o u
    then_comes (comes g) u = refl
    then_comes (never g) u = refl

    plain_link : {p : ℕ} (o : BinaryOp) → is_plain o ≡ true → takes_operands o a b ≡ true → z ≡ link_gives o a → Above → Clean (op_code p o) → Runs k p (op_code p o) op_marks (holding h a s) (ending (after (h + 1) s.gone) (λ g. holding h z (with_gone g s)))
    plain_link {p} o pl takes is run clean =
        let plain = operands_plain k.parts o a b takes in
        subst (λ e. Runs k p (op_code p o) op_marks (holding h a s) e) (then_comes (after (h + 1) s.gone) (λ g. holding h z (with_gone g s)))
        (then_runs k (after (h + 1) s.gone) p (h + 2) (operand p (h + 1) s.gone) (marks (h + 1) (holding h a s)) (λ place g. operator o z spot h ∷ []) (λ g. holding (h + 1) b (holding h a (with_gone g s))) (λ g. holding (h + 1) b (holding h a (with_gone g s)) ∷ []) (λ g. comes g) (λ g. holding h z (with_gone g s)) (holding h a s)
        clean
        (λ c. run p c)
        (λ g q c.
        subst (λ x. Runs k q (x ∷ []) (holding (h + 1) b (holding h a (with_gone g s)) ∷ []) (holding (h + 1) b (holding h a (with_gone g s))) (falls (holding h z (with_gone g s)))) (operator_same o is)
        (subst (λ t. Runs k q (operator o a spot h ∷ []) (holding (h + 1) b (holding h a (with_gone g s)) ∷ []) (holding (h + 1) b (holding h a (with_gone g s))) (falls (holding h t (with_gone g s)))) (sym is)
        (operator_runs k env h (with_gone g s) (stands_gone k g st) o spot a b pl takes)))
        (λ g. holding_there k (h + 1) b (holding h a (with_gone g s)) (h + 2) (omega arith) ∙ holding_there k h a (with_gone g s) (h + 2) (omega arith) ∙ none_at k (h + 2) (stands_gone k g st) (omega arith)))

    -- where the operand may not run, it moves nothing
    says_closed : (x : Ty) (g : Gone) → closes (scope_at s) s.gone (comes g) ≡ true → Says k (holding h x (with_gone g s)) (holding h x (with_gone s.gone s))
    says_closed x g e = says_holding k h x (says_gone k s g s.gone e)

    or_link : {p : ℕ} → a ≡ y.bool → b ≡ y.bool → z ≡ y.bool → Here → Clean (link_code op.Or z spot operand after p h (scope_at s) s.gone)
        → Runs k p (link_code op.Or z spot operand after p h (scope_at s) s.gone) (link_stands op.Or a b z marks after h s) (holding h a s) (falls (holding h z (with_gone s.gone s)))
    or_link {p} ea eb ez run clean =
        chosen (closes (scope_at s) s.gone (after h s.gone)) h clean (λ closed c. whole closed (tail_clean c))
      where
        end : Gone → Stand
        end g = holding h y.bool (with_gone g s)

        other : ℕ
        other = p + 1 + 0 + 1

        tail_clean : Clean (i.Unless h other ∷ ([] ++ (i.Jump (other + length (operand other h s.gone)) ∷ operand other h s.gone))) → Clean (operand other h s.gone)
        tail_clean c = c

        forgets : Says k (holding h y.bool s) s
        forgets = says_less k h y.bool (none_at k h st (omega arith)) refl

        meets : (o : After) → closes (scope_at s) s.gone o ≡ true → Meets k (comes s.gone) o end
        meets (comes g) e = says_closed y.bool g e
        meets (never g) e = tt

        truths : Runs k other (operand other h s.gone) (marks h s) s (ending (after h s.gone) (λ g. holding h b (with_gone g s))) → Runs k other (operand other h s.gone) (marks h s) s (ending (after h s.gone) end)
        truths r = subst (λ t. Runs k other (operand other h s.gone) (marks h s) s (ending (after h s.gone) (λ g. holding h t (with_gone g s)))) eb r

        both_sides : closes (scope_at s) s.gone (after h s.gone) ≡ true → Clean (operand other h s.gone)
            → Runs k p (i.Unless h other ∷ ([] ++ (i.Jump (other + length (operand other h s.gone)) ∷ operand other h s.gone))) (sides_stands (holding h y.bool s) [] (comes s.gone) end (marks h s)) (holding h y.bool s) (falls (end s.gone))
        both_sides closed c =
            sides_runs k (comes s.gone) (after h s.gone) s.gone p h s.depth [] (operand other h s.gone) [] (marks h s) (holding h y.bool s) (holding h y.bool s) s end (holding_here k h y.bool s)
            (runs_less k (nothing k (p + 1) (holding h y.bool s)) (says_holding k h y.bool (says_still s))) (truths (run other c)) (says_same k (holding h y.bool s)) forgets (meets (after h s.gone) closed)

        whole : closes (scope_at s) s.gone (after h s.gone) ≡ true → Clean (operand other h s.gone)
            → Runs k p (i.Unless h other ∷ ([] ++ (i.Jump (other + length (operand other h s.gone)) ∷ operand other h s.gone))) (link_stands op.Or a b z marks after h s) (holding h a s) (falls (holding h z (with_gone s.gone s)))
        whole closed c =
            subst (λ t. Runs k p (i.Unless h other ∷ ([] ++ (i.Jump (other + length (operand other h s.gone)) ∷ operand other h s.gone))) (sides_stands (holding h t s) [] (comes s.gone) (λ g. holding h t (with_gone g s)) (marks h s)) (holding h t s) (falls (holding h z (with_gone s.gone s)))) (sym ea)
            (subst (λ t. Runs k p (i.Unless h other ∷ ([] ++ (i.Jump (other + length (operand other h s.gone)) ∷ operand other h s.gone))) (sides_stands (holding h y.bool s) [] (comes s.gone) end (marks h s)) (holding h y.bool s) (falls (holding h t (with_gone s.gone s)))) (sym ez)
            (both_sides closed c))

    and_link : {p : ℕ} → a ≡ y.bool → b ≡ y.bool → z ≡ y.bool → Here → Clean (link_code op.And z spot operand after p h (scope_at s) s.gone)
        → Runs k p (link_code op.And z spot operand after p h (scope_at s) s.gone) (link_stands op.And a b z marks after h s) (holding h a s) (falls (holding h z (with_gone s.gone s)))
    and_link {p} ea eb ez run clean =
        chosen (closes (scope_at s) s.gone (after h s.gone)) h clean (λ closed c. whole closed c)
      where
        forgets : Says k (holding h y.bool s) s
        forgets = says_less k h y.bool (none_at k h st (omega arith)) refl

        says : closes (scope_at s) s.gone (after h s.gone) ≡ true → (g : Gone) → after h s.gone ≡ comes g → Says k (holding h b (with_gone g s)) (holding h y.bool (with_gone s.gone s))
        says closed g e = subst (λ t. Says k (holding h t (with_gone g s)) (holding h y.bool (with_gone s.gone s))) (sym eb) (says_closed y.bool g (subst (λ o. closes (scope_at s) s.gone o ≡ true) e closed))

        one : List Instr
        one = operand (p + 1) h s.gone

        whole : closes (scope_at s) s.gone (after h s.gone) ≡ true → Clean (operand (p + 1) h s.gone)
            → Runs k p (i.Unless h (p + 1 + length (operand (p + 1) h s.gone)) ∷ operand (p + 1) h s.gone) (holding h a s ∷ marks h s) (holding h a s) (falls (holding h z (with_gone s.gone s)))
        whole closed c =
            subst (λ t. Runs k p (i.Unless h (p + 1 + length (operand (p + 1) h s.gone)) ∷ operand (p + 1) h s.gone) (holding h t s ∷ marks h s) (holding h t s) (falls (holding h z (with_gone s.gone s)))) (sym ea)
            (subst (λ t. Runs k p (i.Unless h (p + 1 + length (operand (p + 1) h s.gone)) ∷ operand (p + 1) h s.gone) (holding h y.bool s ∷ marks h s) (holding h y.bool s) (falls (holding h t (with_gone s.gone s)))) (sym ez)
            (and_runs k (after h s.gone) p h s.depth (operand (p + 1) h s.gone) (marks h s) (holding h y.bool s) s (holding h y.bool (with_gone s.gone s)) (λ g. holding h b (with_gone g s)) (holding_here k h y.bool s)
            (run (p + 1) c) forgets (says_holding k h y.bool (says_still s)) (says closed)))

    -- between a value in h and the operand
    pub link_runs : {p : ℕ} (o : BinaryOp) → takes_operands o a b ≡ true → z ≡ link_gives o a → Above → Here → Clean (link_code o z spot operand after p h (scope_at s) s.gone)
        → Runs k p (link_code o z spot operand after p h (scope_at s) s.gone) (link_stands o a b z marks after h s) (holding h a s) (ending (link_after o after h s.gone) (λ g. holding h z (with_gone g s)))
    link_runs op.Or takes is above here clean = let t = and_parts (is_bool a) (is_bool b) takes in or_link (bool_is a t.0) (bool_is b t.1) is here clean
    link_runs op.And takes is above here clean = let t = and_parts (is_bool a) (is_bool b) takes in and_link (bool_is a t.0) (bool_is b t.1) is here clean
    link_runs op.Equal takes is above here clean = plain_link op.Equal refl takes is above clean
    link_runs op.NotEqual takes is above here clean = plain_link op.NotEqual refl takes is above clean
    link_runs op.Less takes is above here clean = plain_link op.Less refl takes is above clean
    link_runs op.LessEqual takes is above here clean = plain_link op.LessEqual refl takes is above clean
    link_runs op.Greater takes is above here clean = plain_link op.Greater refl takes is above clean
    link_runs op.GreaterEqual takes is above here clean = plain_link op.GreaterEqual refl takes is above clean
    link_runs op.Add takes is above here clean = plain_link op.Add refl takes is above clean
    link_runs op.Sub takes is above here clean = plain_link op.Sub refl takes is above clean
    link_runs op.Mul takes is above here clean = plain_link op.Mul refl takes is above clean
    link_runs op.Div takes is above here clean = plain_link op.Div refl takes is above clean
    link_runs op.Rem takes is above here clean = plain_link op.Rem refl takes is above clean

  -- ---- a test and its sides

  module _ (env : Env) (h : ℕ) (s : Stand) (st : Stands k env h s) (x t : Ty) where
    abbrev side_end : Gone → Stand
    side_end g = given h x (with_gone g s)

    sides_meet : (first second : After) → may_meet (scope_at s) first second ≡ true → Meets k first second side_end
    sides_meet (comes g) (comes c) e = says_given k h x (says_gone k s c g e)
    sides_meet (comes g) (never c) e = tt
    sides_meet (never g) second e = tt

    pub sides_go : (p : ℕ) (first second : After) (before : Gone) (one two : ℕ → List Instr) (om tw : Marks) → t ≡ y.bool → may_meet (scope_at s) first second ≡ true → Clean (sides p h first one two)
        → ((q : ℕ) → Clean (one q) → Runs k q (one q) om s (ending first side_end)) → ((q : ℕ) → Clean (two q) → Runs k q (two q) tw s (ending second side_end))
        → Runs k p (sides p h first one two) (sides_stands (holding h t s) om first side_end tw) (holding h t s) (ending (met before first second) side_end)
    sides_go p first second before one two om tw is meets clean run_one run_two =
        let a = one (p + 1) in
        let other = p + 1 + length a + length (jump_over first 0) in
        let parts = clean_both a (jump_over first (other + length (two other)) ++ two other) clean in
        let rest = clean_both (jump_over first (other + length (two other))) (two other) parts.1 in
        let forgets : Says k (holding h t s) s = says_less k h t (none_at k h st (omega arith)) (ap (λ z. is_free (held k z s.depth)) is) in
        sides_runs k first second before p h s.depth a (two other) om tw (holding h t s) s s side_end (holding_here k h t s ∙ ap (λ z. held k z s.depth) is) (run_one (p + 1) parts.0) (run_two other rest.1) forgets forgets (sides_meet first second meets)

  -- ---- the turns of a loop

  module _ (env : Env) (h : ℕ) (s : Stand) (st : Stands k env h s) (t : Ty) where
    says_back : (g : Gone) → closes (scope_at s) s.gone (comes g) ≡ true → Says k (with_gone g s) s
    says_back g e = says_then k (says_gone k s g s.gone e) (record { depth = refl; each = λ r. agrees_same (at k s r) })

    pub turns_go : (o after : After) (p : ℕ) (test body : ℕ → List Instr) (tm bm : Marks) → t ≡ y.bool → closes (scope_at s) s.gone o ≡ true → closes (scope_at s) s.gone after ≡ true → Clean (turns_code p h o test body)
        → ((q : ℕ) → Clean (test q) → Runs k q (test q) tm s (ending o (λ g. holding h t (with_gone g s)))) → ((q : ℕ) → Clean (body q) → Runs k q (body q) bm s (ending after (λ g. with_gone g s)))
        → Runs k p (turns_code p h o test body) (turns_stands h o s tm t bm after) s (ending (loop_after s.gone o) (λ g. with_gone g s))
    turns_go (comes g) after p test body tm bm is back body_back clean run_test run_body =
        let one = body (p + 2) in
        let start = p + 2 + length one in
        let parts = clean_both one (test start ++ (i.Unless h (start + length (test start) + 2) ∷ i.Jump (p + 1) ∷ [])) clean in
        let rest = clean_both (test start) (i.Unless h (start + length (test start) + 2) ∷ i.Jump (p + 1) ∷ []) parts.1 in
        runs_less k
        (loop_runs k after p h s.depth one (test start) bm tm s (holding h t (with_gone g s)) (λ g. with_gone g s) (run_body (p + 2) parts.0) (run_test start rest.0) (holding_here k h t (with_gone g s) ∙ ap (λ z. held k z s.depth) is)
        (λ c e. says_back c (subst (λ o. closes (scope_at s) s.gone o ≡ true) e body_back))
        (says_then k (says_less k h t (none_at k h (stands_gone k g st) (omega arith)) (ap (λ z. is_free (held k z s.depth)) is)) (says_back g back)))
        (says_still s)
    turns_go (never g) after p test body tm bm is back body_back clean run_test run_body =
        subst (λ e. Runs k p (then_code p (h + 1) (test p) (never g) (λ place g. body place)) (then_stands (h + 1) tm (never g) (λ g. s) (λ g. bm) (λ g. after) (λ g. with_gone g s)) s e) (ending_none k after (λ g. with_gone g s))
        (then_runs k (never g) p (h + 1) (test p) tm (λ place g. body place) (λ g. s) (λ g. bm) (λ g. after) (λ g. with_gone g s) s clean (λ c. run_test p c) (λ g q c. run_body q c) (λ g. none_at k (h + 1) st (omega arith)))
