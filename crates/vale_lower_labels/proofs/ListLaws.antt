-- One part of a list more.
use Rattle.std.proofs.Common.{◌≡◌, ℕ, zero, suc, ◌+◌, ◌<◌, ◌≤◌, List, [], ◌∷◌, ◌++◌, length, get_or, drop, take, refl, ap, sym, ◌∙◌, arith}
use Rattle.std.proofs.lemmas.List.{drop_more, take_more, drop_all}
use Rattle.std.specs.Prelude.{Bool, true, false, ◌||◌, map}
use Rattle.vale_rules_spec.specs.Typed as t
use Rattle.vale_rules_spec.specs.Types.{Ty}
use Rattle.vale_syntax.specs.View.{listed}
use Rattle.vale_core.specs.declared.tree.Expr.{Expr}
use Rattle.vale_core.specs.declared.tree.ElseIf.{ElseIf}
use Rattle.vale_core.specs.declared.tree.Stmt.{Stmt}
use Rattle.vale_core.specs.declared.tree.Link.{Link, out-Link}
use Rattle.vale_core.specs.View.{view_ty, view_expr, view_stmt, view_else_if, view_link, exprs_of, links_of}
use Rattle.vale_lowering.specs.Scopes.{Around}
use Rattle.vale_lower_facts.specs.Slots as s
use Rattle.vale_rules_spec.specs.Returns.{stmt_returns}
use Rattle.vale_lower_facts.specs.Marks.{Marks, value_marks, value_due, args_marks, args_due, links_marks, links_due, link_due, stmts_marks, stmts_due}
use Rattle.vale_lower_labels.specs.Going.{one_link_marks, link_op, next_marks, next_due, next_slots, next_register, goes_on}
use Rattle.vale_label_steps.specs.Progress.{Progress, with_marks}
use Rattle.vale_lower_labels.specs.Sides.{side_marks, sides_marks, sides_due}
use Rattle.vale_label_steps.specs.Standing.{waited}
use Rattle.vale_label_steps.proofs.ProgressLaws.{in_turn, no_marks}
use Rattle.vale_label_steps.proofs.SlotLaws.{waited_more}
use Rattle.vale_lower_labels.proofs.WalkLaws.{links_first, links_due_first, link_type_by_parts}

-- marks, and then others
pub then : (ms ns : Marks) (p q : Progress) → q ≡ with_marks ms p → with_marks ns q ≡ with_marks (ms ++ ns) p
then ms ns p q e = ap (λ z. with_marks ns z) e ∙ in_turn ms ns p

map_more : {A B : Type 0} (f : A → B) (xs : List A) (x : A) → map f (xs ++ x ∷ []) ≡ map f xs ++ f x ∷ []
map_more f [] x = refl
map_more f (y ∷ xs) x = ap (λ z. f y ∷ z) (map_more f xs x)

length_taken : {A B : Type 0} (f : A → B) (xs : List A) (i : ℕ) → i ≤ length xs → length (map f (take i xs)) ≡ i
length_taken f xs zero le = refl
length_taken f [] (suc i) le = absurd (omega (arith, le))
length_taken f (x ∷ xs) (suc i) le = ap suc (length_taken f xs i (omega (arith, le)))

-- ---- arguments

module _ (es : List Expr) (i : ℕ) (e : Expr) where
  rest_of_args : i < length es → e ≡ get_or es i e → exprs_of (map view_expr (drop i es)) ≡ t.more_exprs (view_expr e) (exprs_of (map view_expr (drop (i + 1) es)))
  rest_of_args lt is = ap (λ z. exprs_of (map view_expr z)) (drop_more es i e lt ∙ ap (λ (y : Expr). y ∷ drop (i + 1) es) (sym is))

  waited_next : (h : ℕ) (outer : s.Slots) → i < length es → e ≡ get_or es i e → waited (map view_expr (take (i + 1) es)) h outer ≡ s.waits (h + i) (t.type (view_expr e)) ∷ waited (map view_expr (take i es)) h outer
  waited_next h outer lt is =
      ap (λ z. waited (map view_expr z) h outer) (take_more es i e lt ∙ ap (λ (y : Expr). take i es ++ y ∷ []) (sym is))
      ∙ ap (λ z. waited z h outer) (map_more view_expr (take i es) e)
      ∙ waited_more (map view_expr (take i es)) (view_expr e) h outer
      ∙ ap (λ n. s.waits (h + n) (t.type (view_expr e)) ∷ waited (map view_expr (take i es)) h outer) (length_taken view_expr es i (omega (arith, lt)))

  pub args_next : (a : Around) (h : ℕ) (outer : s.Slots) (over : Bool) (next next2 : ℕ) (due due2 : Bool) (p p2 whole : Progress)
      → i < length es → e ≡ get_or es i e → next ≡ h + i → next2 ≡ next + 1
      → p2 ≡ with_marks (value_marks a (view_expr e) next (record { slots = waited (map view_expr (take i es)) h outer; over = over }) due) p
      → due2 ≡ value_due (view_expr e)
      → with_marks (args_marks a (exprs_of (map view_expr (drop i es))) next (record { slots = waited (map view_expr (take i es)) h outer; over = over }) due) p ≡ whole
      → with_marks (args_marks a (exprs_of (map view_expr (drop (i + 1) es))) next2 (record { slots = waited (map view_expr (take (i + 1) es)) h outer; over = over }) due2) p2 ≡ whole
  args_next a h outer over next next2 due due2 p p2 whole lt is en en2 ep ed so_far =
      let rest : t.Exprs = exprs_of (map view_expr (drop (i + 1) es)) in
      let st : s.Slots = waited (map view_expr (take i es)) h outer in
      let more : waited (map view_expr (take (i + 1) es)) h outer ≡ s.waits next (t.type (view_expr e)) ∷ st = waited_next h outer lt is ∙ ap (λ n. s.waits n (t.type (view_expr e)) ∷ st) (sym en) in
      ap (λ n. with_marks (args_marks a rest n (record { slots = waited (map view_expr (take (i + 1) es)) h outer; over = over }) due2) p2) en2
      ∙ ap (λ z. with_marks (args_marks a rest (next + 1) (record { slots = z; over = over }) due2) p2) more
      ∙ ap (λ b. with_marks (args_marks a rest (next + 1) (record { slots = s.waits next (t.type (view_expr e)) ∷ st; over = over }) b) p2) ed
      ∙ then (value_marks a (view_expr e) next (record { slots = st; over = over }) due) (args_marks a rest (next + 1) (record { slots = s.waits next (t.type (view_expr e)) ∷ st; over = over }) (value_due (view_expr e))) p p2 ep
      ∙ ap (λ z. with_marks (args_marks a z next (record { slots = st; over = over }) due) p) (sym (rest_of_args lt is))
      ∙ so_far

  pub args_due_next : (due due2 whole : Bool) → i < length es → e ≡ get_or es i e → due2 ≡ value_due (view_expr e)
      → args_due (exprs_of (map view_expr (drop i es))) due ≡ whole → args_due (exprs_of (map view_expr (drop (i + 1) es))) due2 ≡ whole
  args_due_next due due2 whole lt is ed so_far =
      ap (λ b. args_due (exprs_of (map view_expr (drop (i + 1) es))) b) ed ∙ ap (λ z. args_due z due) (sym (rest_of_args lt is)) ∙ so_far

pub args_done : (a : Around) (es : List Expr) (i h : ℕ) (st : s.Stand) (due : Bool) (p whole : Progress) → length es ≤ i
    → with_marks (args_marks a (exprs_of (map view_expr (drop i es))) h st due) p ≡ whole → p ≡ whole
args_done a es i h st due p whole le so_far =
    sym (no_marks p) ∙ ap (λ (z : List Expr). with_marks (args_marks a (exprs_of (map view_expr z)) h st due) p) (sym (drop_all i es le)) ∙ so_far

-- ---- operators

pub links_next : (a : Around) (ls : List Link) (i : ℕ) (l : Link) (x x2 : Ty) (h : ℕ) (st : s.Stand) (due due2 : Bool) (p p2 whole : Progress)
    → i < length ls → l ≡ get_or ls i l → x2 ≡ view_ty (out-Link l).seen.value
    → p2 ≡ with_marks (one_link_marks a x (view_link l) h st due) p → due2 ≡ link_due (link_op (view_link l))
    → with_marks (links_marks a x (links_of (map view_link (drop i ls))) h st due) p ≡ whole
    → with_marks (links_marks a x2 (links_of (map view_link (drop (i + 1) ls))) h st due2) p2 ≡ whole
links_next a ls i l x x2 h st due due2 p p2 whole lt is ex ep ed so_far =
    let rest : t.Links = links_of (map view_link (drop (i + 1) ls)) in
    ap (λ z. with_marks (links_marks a z rest h st due2) p2) (ex ∙ sym (link_type_by_parts l))
    ∙ ap (λ b. with_marks (links_marks a (t.link_seen (view_link l)).value rest h st b) p2) ed
    ∙ then (one_link_marks a x (view_link l) h st due) (links_marks a (t.link_seen (view_link l)).value rest h st (link_due (link_op (view_link l)))) p p2 ep
    ∙ ap (λ z. with_marks z p) (sym (links_first a h st due x (view_link l) rest))
    ∙ ap (λ (z : List Link). with_marks (links_marks a x (links_of (map view_link z)) h st due) p) (sym (drop_more ls i l lt ∙ ap (λ (y : Link). y ∷ drop (i + 1) ls) (sym is)))
    ∙ so_far

pub links_due_next : (ls : List Link) (i : ℕ) (l : Link) (due due2 whole : Bool) → i < length ls → l ≡ get_or ls i l → due2 ≡ link_due (link_op (view_link l))
    → links_due (links_of (map view_link (drop i ls))) due ≡ whole → links_due (links_of (map view_link (drop (i + 1) ls))) due2 ≡ whole
links_due_next ls i l due due2 whole lt is ed so_far =
    ap (λ b. links_due (links_of (map view_link (drop (i + 1) ls))) b) ed
    ∙ sym (links_due_first (view_link l) (links_of (map view_link (drop (i + 1) ls))) due)
    ∙ ap (λ (z : List Link). links_due (links_of (map view_link z)) due) (sym (drop_more ls i l lt ∙ ap (λ (y : Link). y ∷ drop (i + 1) ls) (sym is)))
    ∙ so_far

pub links_done : (a : Around) (ls : List Link) (i : ℕ) (x : Ty) (h : ℕ) (st : s.Stand) (due : Bool) (p whole : Progress) → length ls ≤ i
    → with_marks (links_marks a x (links_of (map view_link (drop i ls))) h st due) p ≡ whole → p ≡ whole
links_done a ls i x h st due p whole le so_far =
    sym (no_marks p) ∙ ap (λ (z : List Link). with_marks (links_marks a x (links_of (map view_link z)) h st due) p) (sym (drop_all i ls le)) ∙ so_far

-- ---- sides

pub sides_next : (a : Around) (gives : Bool) (es : List ElseIf) (i : ℕ) (e : ElseIf) (h : ℕ) (st : s.Stand) (due due2 : Bool) (p p2 whole : Progress)
    → i < length es → e ≡ get_or es i e → p2 ≡ with_marks (side_marks a gives (view_else_if e) h st due) p → due2 ≡ true
    → with_marks (sides_marks a gives (map view_else_if (drop i es)) h st due) p ≡ whole
    → with_marks (sides_marks a gives (map view_else_if (drop (i + 1) es)) h st due2) p2 ≡ whole
sides_next a gives es i e h st due due2 p p2 whole lt is ep ed so_far =
    let rest : List t.ElseIf = map view_else_if (drop (i + 1) es) in
    ap (λ b. with_marks (sides_marks a gives rest h st b) p2) ed
    ∙ then (side_marks a gives (view_else_if e) h st due) (sides_marks a gives rest h st true) p p2 ep
    ∙ ap (λ (z : List ElseIf). with_marks (sides_marks a gives (map view_else_if z) h st due) p) (sym (drop_more es i e lt ∙ ap (λ (y : ElseIf). y ∷ drop (i + 1) es) (sym is)))
    ∙ so_far

pub sides_due_next : (es : List ElseIf) (i : ℕ) (e : ElseIf) (due due2 whole : Bool) → i < length es → e ≡ get_or es i e → due2 ≡ true
    → sides_due (map view_else_if (drop i es)) due ≡ whole → sides_due (map view_else_if (drop (i + 1) es)) due2 ≡ whole
sides_due_next es i e due due2 whole lt is ed so_far =
    ap (λ b. sides_due (map view_else_if (drop (i + 1) es)) b) ed
    ∙ ap (λ (z : List ElseIf). sides_due (map view_else_if z) due) (sym (drop_more es i e lt ∙ ap (λ (y : ElseIf). y ∷ drop (i + 1) es) (sym is)))
    ∙ so_far

pub sides_done : (a : Around) (gives : Bool) (es : List ElseIf) (i h : ℕ) (st : s.Stand) (due : Bool) (p whole : Progress) → length es ≤ i
    → with_marks (sides_marks a gives (map view_else_if (drop i es)) h st due) p ≡ whole → p ≡ whole
sides_done a gives es i h st due p whole le so_far =
    sym (no_marks p) ∙ ap (λ (z : List ElseIf). with_marks (sides_marks a gives (map view_else_if z) h st due) p) (sym (drop_all i es le)) ∙ so_far

-- ---- statements

module _ (a : Around) (gives : Bool) (last : t.Stmts) (ms : List Stmt) (i : ℕ) (x : Stmt) where
  rest_of_stmts : i < length ms → x ≡ get_or ms i x → listed t.more_stmts (map view_stmt (drop i ms)) last ≡ t.more_stmts (view_stmt x) (listed t.more_stmts (map view_stmt (drop (i + 1) ms)) last)
  rest_of_stmts lt is = ap (λ z. listed t.more_stmts (map view_stmt z) last) (drop_more ms i x lt ∙ ap (λ (y : Stmt). y ∷ drop (i + 1) ms) (sym is))

  going : (x : t.Stmt) (ss : t.Stmts) (h : ℕ) (st : s.Stand) (due : Bool) → goes_on x ≡ true → stmts_marks a gives (t.more_stmts x ss) h st due
      ≡ next_marks a x h st due ++ stmts_marks a gives ss (next_register x h) (record { slots = next_slots x h st.slots; over = stmt_returns x || st.over }) (next_due a.gives x)
  going (t.declare n y e) ss h st due g = refl
  going (t.destructure at ns xs e) ss h st due g = absurd cc
  going (t.return_nothing at) ss h st due g = refl
  going (t.return_value at e) ss h st due g = refl
  going (t.while at c b) ss h st due g = refl
  going (t.foreach at n c e b) ss h st due g = refl
  going (t.form_stmt f) ss h st due g = refl
  going (t.express e) ss h st due g = refl

  ended : (x : t.Stmt) (ss : t.Stmts) (h : ℕ) (st : s.Stand) (due : Bool) → goes_on x ≡ false → stmts_marks a gives (t.more_stmts x ss) h st due ≡ next_marks a x h st due
  ended (t.declare n y e) ss h st due g = absurd cc
  ended (t.destructure at ns xs e) ss h st due g = refl
  ended (t.return_nothing at) ss h st due g = absurd cc
  ended (t.return_value at e) ss h st due g = absurd cc
  ended (t.while at c b) ss h st due g = absurd cc
  ended (t.foreach at n c e b) ss h st due g = absurd cc
  ended (t.form_stmt f) ss h st due g = absurd cc
  ended (t.express e) ss h st due g = absurd cc

  due_going : (returns : Bool) (x : t.Stmt) (ss : t.Stmts) (due : Bool) → goes_on x ≡ true → stmts_due returns gives (t.more_stmts x ss) due ≡ stmts_due returns gives ss (next_due returns x)
  due_going returns (t.declare n y e) ss due g = refl
  due_going returns (t.destructure at ns xs e) ss due g = absurd cc
  due_going returns (t.return_nothing at) ss due g = refl
  due_going returns (t.return_value at e) ss due g = refl
  due_going returns (t.while at c b) ss due g = refl
  due_going returns (t.foreach at n c e b) ss due g = refl
  due_going returns (t.form_stmt f) ss due g = refl
  due_going returns (t.express e) ss due g = refl

  due_ended : (returns : Bool) (x : t.Stmt) (ss : t.Stmts) (due : Bool) → goes_on x ≡ false → stmts_due returns gives (t.more_stmts x ss) due ≡ next_due returns x
  due_ended returns (t.declare n y e) ss due g = absurd cc
  due_ended returns (t.destructure at ns xs e) ss due g = refl
  due_ended returns (t.return_nothing at) ss due g = absurd cc
  due_ended returns (t.return_value at e) ss due g = absurd cc
  due_ended returns (t.while at c b) ss due g = absurd cc
  due_ended returns (t.foreach at n c e b) ss due g = absurd cc
  due_ended returns (t.form_stmt f) ss due g = absurd cc
  due_ended returns (t.express e) ss due g = absurd cc

  module _ (h : ℕ) (slots : s.Slots) (over due : Bool) (p : Progress) (lt : i < length ms) (is : x ≡ get_or ms i x) where
    abbrev st : s.Stand
    st = record { slots = slots; over = over }

    abbrev rest : t.Stmts
    rest = listed t.more_stmts (map view_stmt (drop (i + 1) ms)) last

    pub stmts_next : (h2 : ℕ) (slots2 : s.Slots) (over2 due2 : Bool) (p2 whole : Progress)
        → goes_on (view_stmt x) ≡ true → p2 ≡ with_marks (next_marks a (view_stmt x) h (record { slots = slots; over = over }) due) p
        → due2 ≡ next_due a.gives (view_stmt x) → slots2 ≡ next_slots (view_stmt x) h slots → h2 ≡ next_register (view_stmt x) h → over2 ≡ (stmt_returns (view_stmt x) || over)
        → with_marks (stmts_marks a gives (listed t.more_stmts (map view_stmt (drop i ms)) last) h (record { slots = slots; over = over }) due) p ≡ whole
        → with_marks (stmts_marks a gives (listed t.more_stmts (map view_stmt (drop (i + 1) ms)) last) h2 (record { slots = slots2; over = over2 }) due2) p2 ≡ whole
    stmts_next h2 slots2 over2 due2 p2 whole g ep ed es eh eo so_far =
        ap (λ n. with_marks (stmts_marks a gives rest n (record { slots = slots2; over = over2 }) due2) p2) eh
        ∙ ap (λ z. with_marks (stmts_marks a gives rest (next_register (view_stmt x) h) (record { slots = z; over = over2 }) due2) p2) es
        ∙ ap (λ b. with_marks (stmts_marks a gives rest (next_register (view_stmt x) h) (record { slots = next_slots (view_stmt x) h slots; over = b }) due2) p2) eo
        ∙ ap (λ b. with_marks (stmts_marks a gives rest (next_register (view_stmt x) h) (record { slots = next_slots (view_stmt x) h slots; over = stmt_returns (view_stmt x) || over }) b) p2) ed
        ∙ then (next_marks a (view_stmt x) h st due) (stmts_marks a gives rest (next_register (view_stmt x) h) (record { slots = next_slots (view_stmt x) h slots; over = stmt_returns (view_stmt x) || over }) (next_due a.gives (view_stmt x))) p p2 ep
        ∙ ap (λ z. with_marks z p) (sym (going (view_stmt x) rest h st due g))
        ∙ ap (λ z. with_marks (stmts_marks a gives z h st due) p) (sym (rest_of_stmts lt is))
        ∙ so_far

    pub stmts_stop : (p2 whole : Progress) → goes_on (view_stmt x) ≡ false → p2 ≡ with_marks (next_marks a (view_stmt x) h (record { slots = slots; over = over }) due) p
        → with_marks (stmts_marks a gives (listed t.more_stmts (map view_stmt (drop i ms)) last) h (record { slots = slots; over = over }) due) p ≡ whole → p2 ≡ whole
    stmts_stop p2 whole g ep so_far =
        ep ∙ ap (λ z. with_marks z p) (sym (ended (view_stmt x) rest h st due g))
        ∙ ap (λ z. with_marks (stmts_marks a gives z h st due) p) (sym (rest_of_stmts lt is))
        ∙ so_far

  pub due_next : (returns due due2 whole : Bool) → i < length ms → x ≡ get_or ms i x → goes_on (view_stmt x) ≡ true → due2 ≡ next_due returns (view_stmt x)
      → stmts_due returns gives (listed t.more_stmts (map view_stmt (drop i ms)) last) due ≡ whole → stmts_due returns gives (listed t.more_stmts (map view_stmt (drop (i + 1) ms)) last) due2 ≡ whole
  due_next returns due due2 whole lt is g ed so_far =
      let after : t.Stmts = listed t.more_stmts (map view_stmt (drop (i + 1) ms)) last in
      ap (λ b. stmts_due returns gives after b) ed ∙ sym (due_going returns (view_stmt x) after due g)
      ∙ ap (λ z. stmts_due returns gives z due) (sym (rest_of_stmts lt is)) ∙ so_far

  pub due_stop : (returns due due2 whole : Bool) → i < length ms → x ≡ get_or ms i x → goes_on (view_stmt x) ≡ false → due2 ≡ next_due returns (view_stmt x)
      → stmts_due returns gives (listed t.more_stmts (map view_stmt (drop i ms)) last) due ≡ whole → due2 ≡ whole
  due_stop returns due due2 whole lt is g ed so_far =
      let after : t.Stmts = listed t.more_stmts (map view_stmt (drop (i + 1) ms)) last in
      ed ∙ sym (due_ended returns (view_stmt x) after due g) ∙ ap (λ z. stmts_due returns gives z due) (sym (rest_of_stmts lt is)) ∙ so_far

module _ (a : Around) (gives : Bool) (last : t.Stmts) (ms : List Stmt) (i : ℕ) where
  nothing_left : length ms ≤ i → listed t.more_stmts (map view_stmt (drop i ms)) last ≡ last
  nothing_left le = ap (λ (z : List Stmt). listed t.more_stmts (map view_stmt z) last) (drop_all i ms le)

  pub stmts_done : (h : ℕ) (st : s.Stand) (due : Bool) (p p2 whole : Progress) → length ms ≤ i → p2 ≡ with_marks (stmts_marks a gives last h st due) p
      → with_marks (stmts_marks a gives (listed t.more_stmts (map view_stmt (drop i ms)) last) h st due) p ≡ whole → p2 ≡ whole
  stmts_done h st due p p2 whole le ep so_far = ep ∙ ap (λ z. with_marks (stmts_marks a gives z h st due) p) (sym (nothing_left le)) ∙ so_far

  pub due_done : (returns due due2 whole : Bool) → length ms ≤ i → due2 ≡ stmts_due returns gives last due
      → stmts_due returns gives (listed t.more_stmts (map view_stmt (drop i ms)) last) due ≡ whole → due2 ≡ whole
  due_done returns due due2 whole le ed so_far = ed ∙ ap (λ z. stmts_due returns gives z due) (sym (nothing_left le)) ∙ so_far
