-- The code of a part, by that of its own parts.
use Rattle.std.proofs.Common.{◌≡◌, ℕ, zero, suc, ◌+◌, ◌<◌, ◌≤◌, get_or, drop, List, [], ◌∷◌, ◌++◌, length, refl, ap, sym, ◌∙◌, append_assoc, append-nil, length-append, arith}
use Rattle.std.specs.Prelude.{Bool, true, false, not, ◌&&◌, map, option_map, slice_set, pos, if◌then◌else◌}
use Rattle.std.proofs.Math.Seq.{set-append_seam}
use Rattle.std.proofs.lemmas.List.{drop_more, drop_all}
use Rattle.vale_base.specs.declared.spot.Spot.{Spot}
use Rattle.vale_syntax.specs.declared.tree.NameAt.{NameAt}
use Rattle.vale_rules_spec.specs.Types.{is_copy}
use Rattle.vale_rules_spec.specs.Typed as t
use Rattle.vale_rules_spec.specs.Typed.{type}
use Rattle.vale_syntax.specs.View.{listed}
use Rattle.vale_core.specs.declared.tree.Expr.{Expr, out-Expr}
use Rattle.vale_core.specs.declared.tree.Block.{Block, out-Block}
use Rattle.vale_core.specs.declared.tree.ElseIf.{ElseIf, out-ElseIf}
use Rattle.vale_core.specs.declared.tree.Link.{Link, out-Link}
use Rattle.vale_core.specs.declared.tree.Stmt.{Stmt}
use Rattle.vale_core.specs.View.{view_ty, view_expr, view_node, view_stmt, view_block, view_else_if, view_link, exprs_of, stmts_of}
use Rattle.vale_core.proofs.ViewLaws as v
use Rattle.vale_code.specs.declared.instr.Instr.{Instr}
use Rattle.vale_code.specs.declared.instr.Instr.TheVariants as i
use Rattle.vale_lowering.specs.Instructions.{only_if, then_at, load, loop_code, count_code, link_code}
use Rattle.vale_lowering.specs.Lowered.{count, expr_code, value_code, node_code, args_code, links_code, form_code, elses_code, block_code, stmts_code, unused_code}
use Rattle.vale_lowering.specs.Scopes.{Scope, Around, waiting, place_of}
use Rattle.vale_lower_expr.specs.Entries.{awaited}
use Rattle.vale_lower_expr.specs.Jumps.{jumps_set}
use Rattle.vale_lower_expr.specs.Places.{is_set}
use Rattle.vale_core.proofs.PartLaws.{of_out_expr, of_out_link, of_out_else_if, of_out_block}
use Rattle.vale_lower_expr.proofs.ScopeLaws.{framed_more, awaited_more}
use Rattle.vale_lower_code.specs.Going.{is_lowered, next_code, next_register, next_scope, set_only_code}
use Rattle.vale_lower_code.specs.Links.{one_link_code}
use Rattle.vale_lower_code.specs.Sides.{side_end, side_code, else_if_code, else_if_end, sides_code, sides_ends}
use Rattle.vale_lower_code.proofs.PatchLaws.{set_loop}

-- ---- expressions

module _ (a : Around) (place h : ℕ) (s : Scope) where
  pub expr_by_parts : (e : Expr) → expr_code a (view_expr e) place h s ≡ node_code a (is_copy (view_ty (out-Expr e).seen.value)) (view_node (out-Expr e).node) place h s
  expr_by_parts e = ap (λ z. expr_code a z place h s) (of_out_expr e)

  pub value_by_parts : (e : Expr) → value_code a (view_expr e) place h s ≡ only_if (is_copy (view_ty (out-Expr e).seen.value)) h (node_code a (is_copy (view_ty (out-Expr e).seen.value)) (view_node (out-Expr e).node) place h s)
  value_by_parts e = ap (λ z. value_code a z place h s) (of_out_expr e)

  pub name_by_move : (gives is_outer moved : Bool) (n : NameAt) → node_code a gives (t.name n is_outer moved) place h s ≡ only_if (gives && not moved) h (load (place_of n.name.0 s) h)
  name_by_move true is_outer true n = refl
  name_by_move false is_outer true n = refl
  name_by_move true is_outer false n = refl
  name_by_move false is_outer false n = refl

  pub links_first : (l : t.Link) (ls : t.Links) → links_code a (t.more_links l ls) place h s ≡ then_at place (one_link_code a l place h s) (λ place. links_code a ls place h s)
  links_first (t.link x at op e) ls = refl

  pub link_by_parts : (l : Link) → one_link_code a (view_link l) place h s ≡ link_code (out-Link l).op (view_ty (out-Link l).seen.value) (out-Link l).at (λ place h. value_code a (view_expr (out-Link l).operand) place h s) place h
  link_by_parts l = ap (λ z. one_link_code a z place h s) (of_out_link l)

  pub else_if_by_parts : (gives : Bool) (e : ElseIf) (end : ℕ) → else_if_code a gives (view_else_if e) end place h s ≡ side_code place h (value_code a (view_expr (out-ElseIf e).condition) place h s) (λ place. block_code a gives (view_block (out-ElseIf e).block) place h (h + 1) s) end
  else_if_by_parts gives e end = ap (λ z. else_if_code a gives z end place h s) (of_out_else_if e)

  pub else_if_ends_by_parts : (gives : Bool) (e : ElseIf) → else_if_end a gives (view_else_if e) place h s ≡ side_end place (value_code a (view_expr (out-ElseIf e).condition) place h s) (λ place. block_code a gives (view_block (out-ElseIf e).block) place h (h + 1) s)
  else_if_ends_by_parts gives e = ap (λ z. else_if_end a gives z place h s) (of_out_else_if e)

  pub block_by_parts : (gives : Bool) (b : Block) (to : ℕ) → block_code a gives (view_block b) place to h s ≡ stmts_code a gives (stmts_of (map view_stmt (out-Block b).stmts) (option_map view_expr (out-Block b).last)) place to h s
  block_by_parts gives b to = ap (λ z. block_code a gives z place to h s) (of_out_block b)

pub type_by_parts : (e : Expr) → is_copy (type (view_expr e)) ≡ is_copy (view_ty (out-Expr e).seen.value)
type_by_parts e = ap (λ z. is_copy (type z)) (of_out_expr e)

pub count_is : (es : List Expr) → count (exprs_of (map view_expr es)) ≡ length es
count_is [] = refl
count_is (e ∷ es) = ap suc (count_is es)

-- ---- one part after another

pub in_turn : (c0 c1 part : List Instr) (more : ℕ → List Instr) → c1 ≡ c0 ++ part → c1 ++ more (length c1) ≡ c0 ++ then_at (length c0) part more
in_turn c0 c1 part more e =
    let l : length c1 ≡ length c0 + length part = ap length e ∙ length-append c0 part in
    ap (λ n. c1 ++ more n) l ∙ ap (λ z. z ++ more (length c0 + length part)) e ∙ append_assoc c0 part (more (length c0 + length part))

-- ---- the sides of an `if`

module _ (a : Around) (gives : Bool) (h : ℕ) (s : Scope) where
  side_length : (place : ℕ) (test : List Instr) (one : ℕ → List Instr) (end : ℕ) → place + length (side_code place h test one end) ≡ side_end place test one + 1
  side_length place test one end =
      let u : Instr = i.Unless h (side_end place test one + 1) in
      let body : List Instr = one (place + length test + 1) in
      let l1 = length-append test (u ∷ (body ++ (i.Jump end ∷ []))) in
      let l2 = length-append body (i.Jump end ∷ []) in
      omega arith

  -- where the sides end
  abbrev after_sides : List t.ElseIf → ℕ → ℕ
  after_sides [] place = place
  after_sides (e ∷ es) place = after_sides es (else_if_end a gives e place h s + 1)

  pub else_if_length : (e : t.ElseIf) (place end : ℕ) → place + length (else_if_code a gives e end place h s) ≡ else_if_end a gives e place h s + 1
  else_if_length (t.else_if at c b) place end = side_length place (value_code a c place h s) (λ place. block_code a gives b place h (h + 1) s) end

  sides_length : (es : List t.ElseIf) (place end : ℕ) → place + length (sides_code a gives es end place h s) ≡ after_sides es place
  sides_length [] place end = omega arith
  sides_length (e ∷ es) place end =
      let next : ℕ = else_if_end a gives e place h s + 1 in
      let l1 = length-append (else_if_code a gives e end place h s) (sides_code a gives es end next h s) in
      let l2 = else_if_length e place end in
      let l3 = sides_length es next end in
      omega arith

  set_one : (pre test body more : List Instr) (u : Instr) (place end n : ℕ) → n ≡ length pre + length test + 1 + length body
      → slice_set (pre ++ ((test ++ (u ∷ (body ++ (i.Jump 0 ∷ [])))) ++ more)) n (i.Jump end) ≡ (pre ++ (test ++ (u ∷ (body ++ (i.Jump end ∷ []))))) ++ more
  set_one pre test body more u place end n e =
      let front : List Instr = pre ++ (test ++ (u ∷ body)) in
      let l1 = length-append pre (test ++ (u ∷ body)) in
      let l2 = length-append test (u ∷ body) in
      let q : n ≡ length front = omega arith in
      let flat : pre ++ ((test ++ (u ∷ (body ++ (i.Jump 0 ∷ [])))) ++ more) ≡ front ++ i.Jump 0 ∷ more = simp append_assoc in
      let back : front ++ i.Jump end ∷ more ≡ (pre ++ (test ++ (u ∷ (body ++ (i.Jump end ∷ []))))) ++ more = simp append_assoc in
      ap (λ z. slice_set z n (i.Jump end)) flat ∙ ap (λ m. slice_set (front ++ i.Jump 0 ∷ more) m (i.Jump end)) q ∙ set-append_seam front (i.Jump 0) more (i.Jump end) ∙ back

  -- the jumps of the sides are set
  set_sides : (es : List t.ElseIf) (pre post : List Instr) (place end : ℕ) → length pre ≡ place
      → jumps_set (sides_ends a gives es place h s) end (pre ++ (sides_code a gives es 0 place h s ++ post)) ≡ pre ++ (sides_code a gives es end place h s ++ post)
  set_sides [] pre post place end l = refl
  set_sides (t.else_if at c b ∷ es) pre post place end l =
      let test : List Instr = value_code a c place h s in
      let body : List Instr = block_code a gives b (place + length test + 1) h (h + 1) s in
      let here : ℕ = place + length test + 1 + length body in
      let u : Instr = i.Unless h (here + 1) in
      let side : List Instr = test ++ (u ∷ (body ++ (i.Jump end ∷ []))) in
      let old : List Instr = sides_code a gives es 0 (here + 1) h s in
      let new : List Instr = sides_code a gives es end (here + 1) h s in
      let q : here ≡ length pre + length test + 1 + length body = omega arith in
      let grouped : pre ++ (((test ++ (u ∷ (body ++ (i.Jump 0 ∷ [])))) ++ old) ++ post) ≡ pre ++ ((test ++ (u ∷ (body ++ (i.Jump 0 ∷ [])))) ++ (old ++ post)) = simp append_assoc in
      let l1 = length-append pre side in
      let l2 : place + length side ≡ here + 1 = else_if_length (t.else_if at c b) place end in
      let lp : length (pre ++ side) ≡ here + 1 = omega arith in
      ap (λ z. jumps_set (sides_ends a gives es (here + 1) h s) end (slice_set z here (i.Jump end))) grouped
      ∙ ap (λ z. jumps_set (sides_ends a gives es (here + 1) h s) end z) (set_one pre test body (old ++ post) u place end here q)
      ∙ set_sides es (pre ++ side) post (here + 1) end lp
      ∙ append_assoc pre side (new ++ post)
      ∙ ap (λ z. pre ++ z) (sym (append_assoc side new post))

  -- nested sides, one after another
  by_sides : (es : List t.ElseIf) (last : t.Elses) (place end : ℕ) → end ≡ place + length (elses_code a gives (listed t.more_elses es last) place h s)
      → elses_code a gives (listed t.more_elses es last) place h s ≡ sides_code a gives es end place h s ++ elses_code a gives last (after_sides es place) h s
  by_sides [] last place end e = refl
  by_sides (t.else_if at c b ∷ es) last place end e =
      let test : List Instr = value_code a c place h s in
      let body : List Instr = block_code a gives b (place + length test + 1) h (h + 1) s in
      let other : ℕ = place + length test + 1 + length body + 1 in
      let two : List Instr = elses_code a gives (listed t.more_elses es last) other h s in
      let u : Instr = i.Unless h other in
      let l0 : end ≡ place + length (test ++ (u ∷ (body ++ (i.Jump (other + length two) ∷ two)))) = e in
      let l1 = length-append test (u ∷ (body ++ (i.Jump (other + length two) ∷ two))) in
      let l2 = length-append body (i.Jump (other + length two) ∷ two) in
      let q : other + length two ≡ end = omega arith in
      let split : test ++ (u ∷ (body ++ (i.Jump end ∷ two))) ≡ (test ++ (u ∷ (body ++ (i.Jump end ∷ [])))) ++ two = simp append_assoc in
      ap (λ n. test ++ (u ∷ (body ++ (i.Jump n ∷ two)))) q ∙ split
      ∙ ap (λ z. (test ++ (u ∷ (body ++ (i.Jump end ∷ [])))) ++ z) (by_sides es last other end (sym q))
      ∙ sym (append_assoc (test ++ (u ∷ (body ++ (i.Jump end ∷ [])))) (sides_code a gives es end other h s) (elses_code a gives last (after_sides es other) h s))

  -- all sides and what follows the last, with the jumps set at the end
  pub set_if : (at : Spot) (c : t.Expr) (b : t.Block) (es : List t.ElseIf) (last : t.Elses) (base ca cb cc0 : List Instr) (ends1 ends2 : List ℕ)
      → ca ≡ base ++ else_if_code a gives (t.else_if at c b) 0 (length base) h s → ends1 ≡ else_if_end a gives (t.else_if at c b) (length base) h s ∷ []
      → cb ≡ ca ++ sides_code a gives es 0 (length ca) h s → ends2 ≡ ends1 ++ sides_ends a gives es (length ca) h s
      → cc0 ≡ cb ++ elses_code a gives last (length cb) h s
      → jumps_set ends2 (length cc0) cc0 ≡ base ++ form_code a gives (t.branch at c b (listed t.more_elses es last)) (length base) h s
  set_if at c b es last base ca cb cc0 ends1 ends2 ea ee eb ef ec =
      let place : ℕ = length base in
      let all : List t.ElseIf = t.else_if at c b ∷ es in
      let next : ℕ = else_if_end a gives (t.else_if at c b) place h s + 1 in
      let first : List Instr = else_if_code a gives (t.else_if at c b) 0 place h s in
      let l1 = ap length ea ∙ length-append base first in
      let l2 : place + length first ≡ next = else_if_length (t.else_if at c b) place 0 in
      let qa : length ca ≡ next = omega arith in
      let fb : cb ≡ base ++ sides_code a gives all 0 place h s = eb ∙ ap (λ n. ca ++ sides_code a gives es 0 n h s) qa ∙ ap (λ z. z ++ sides_code a gives es 0 next h s) ea ∙ append_assoc base first (sides_code a gives es 0 next h s) in
      let l3 = ap length fb ∙ length-append base (sides_code a gives all 0 place h s) in
      let l4 = sides_length all place 0 in
      let qb : length cb ≡ after_sides all place = omega arith in
      let rest : List Instr = elses_code a gives last (after_sides all place) h s in
      let fc : cc0 ≡ base ++ (sides_code a gives all 0 place h s ++ rest) = ec ∙ ap (λ n. cb ++ elses_code a gives last n h s) qb ∙ ap (λ z. z ++ rest) fb ∙ append_assoc base (sides_code a gives all 0 place h s) rest in
      let fe : ends2 ≡ sides_ends a gives all place h s = ef ∙ ap (λ n. ends1 ++ sides_ends a gives es n h s) qa ∙ ap (λ z. z ++ sides_ends a gives es next h s) ee in
      let end : ℕ = length cc0 in
      let l5 = ap length ec ∙ length-append cb (elses_code a gives last (length cb) h s) in
      let l6 = ap length fc ∙ length-append base (sides_code a gives all 0 place h s ++ rest) in
      let l7 = length-append (sides_code a gives all 0 place h s) rest in
      let whole : List Instr = elses_code a gives (listed t.more_elses all last) place h s in
      let sides : whole ≡ sides_code a gives all (place + length whole) place h s ++ rest = by_sides all last place (place + length whole) refl in
      let l8 = ap length sides ∙ length-append (sides_code a gives all (place + length whole) place h s) rest in
      let l9 = sides_length all place (place + length whole) in
      let qe : length cc0 ≡ place + length whole = omega arith in
      ap (λ z. jumps_set z (length cc0) cc0) fe ∙ ap (λ z. jumps_set (sides_ends a gives all place h s) (length cc0) z) fc
      ∙ ap (λ n. jumps_set (sides_ends a gives all place h s) n (base ++ (sides_code a gives all 0 place h s ++ rest))) qe
      ∙ set_sides all base rest place (place + length whole) refl
      ∙ ap (λ z. base ++ z) (sym sides)

-- ---- statements

module _ (a : Around) (gives : Bool) (to h : ℕ) (s : Scope) where
  pub lowered_next : (x : t.Stmt) (rest : t.Stmts) (code : List Instr) → is_lowered x ≡ true
      → code ++ stmts_code a gives (t.more_stmts x rest) (length code) to h s ≡ code ++ then_at (length code) (next_code a x (length code) h s) (λ place. stmts_code a gives rest place to (next_register x h) (next_scope x h s))
  lowered_next (t.declare n x e) rest code g = refl
  lowered_next (t.destructure at ns xs e) rest code g = absurd cc
  lowered_next (t.return_nothing at) rest code g = refl
  lowered_next (t.return_value at e) rest code g = refl
  lowered_next (t.while at c b) rest code g = refl
  lowered_next (t.foreach at n c e b) rest code g = refl
  lowered_next (t.form_stmt f) rest code g = refl
  lowered_next (t.express e) rest code g = refl

  pub stopped_next : (x : t.Stmt) (rest : t.Stmts) (code : List Instr) → is_lowered x ≡ false
      → code ++ stmts_code a gives (t.more_stmts x rest) (length code) to h s ≡ code ++ next_code a x (length code) h s
  stopped_next (t.declare n x e) rest code g = absurd cc
  stopped_next (t.destructure at ns xs e) rest code g = refl
  stopped_next (t.return_nothing at) rest code g = absurd cc
  stopped_next (t.return_value at e) rest code g = absurd cc
  stopped_next (t.while at c b) rest code g = absurd cc
  stopped_next (t.foreach at n c e b) rest code g = absurd cc
  stopped_next (t.form_stmt f) rest code g = absurd cc
  stopped_next (t.express e) rest code g = absurd cc

  -- the statement at a place of the block
  at_stmt : (ms : List Stmt) (i : ℕ) (x : Stmt) (last : t.Stmts) (code whole : List Instr) → i < length ms → x ≡ get_or ms i x
      → code ++ stmts_code a gives (listed t.more_stmts (map view_stmt (drop i ms)) last) (length code) to h s ≡ whole
      → code ++ stmts_code a gives (t.more_stmts (view_stmt x) (listed t.more_stmts (map view_stmt (drop (i + 1) ms)) last)) (length code) to h s ≡ whole
  at_stmt ms i x last code whole lt is so_far =
      let one : drop i ms ≡ x ∷ drop (i + 1) ms = drop_more ms i x lt ∙ ap (λ (y : Stmt). y ∷ drop (i + 1) ms) (sym is) in
      ap (λ (z : List Stmt). code ++ stmts_code a gives (listed t.more_stmts (map view_stmt z) last) (length code) to h s) (sym one) ∙ so_far

  pub stmts_next : (ms : List Stmt) (i : ℕ) (x : Stmt) (last : t.Stmts) (code code2 whole : List Instr) (h2 : ℕ) (s2 : Scope) → i < length ms → x ≡ get_or ms i x
      → is_lowered (view_stmt x) ≡ true → code2 ≡ code ++ next_code a (view_stmt x) (length code) h s → h2 ≡ next_register (view_stmt x) h → s2 ≡ next_scope (view_stmt x) h s
      → code ++ stmts_code a gives (listed t.more_stmts (map view_stmt (drop i ms)) last) (length code) to h s ≡ whole
      → code2 ++ stmts_code a gives (listed t.more_stmts (map view_stmt (drop (i + 1) ms)) last) (length code2) to h2 s2 ≡ whole
  stmts_next ms i x last code code2 whole h2 s2 lt is g e eh es so_far =
      let rest : t.Stmts = listed t.more_stmts (map view_stmt (drop (i + 1) ms)) last in
      ap (λ (n : ℕ). code2 ++ stmts_code a gives rest (length code2) to n s2) eh
      ∙ (ap (λ (z : Scope). code2 ++ stmts_code a gives rest (length code2) to (next_register (view_stmt x) h) z) es
      ∙ (in_turn code code2 (next_code a (view_stmt x) (length code) h s) (λ place. stmts_code a gives rest place to (next_register (view_stmt x) h) (next_scope (view_stmt x) h s)) e
      ∙ (sym (lowered_next (view_stmt x) rest code g) ∙ at_stmt ms i x last code whole lt is so_far)))

  pub stmts_stop : (ms : List Stmt) (i : ℕ) (x : Stmt) (last : t.Stmts) (code code2 whole : List Instr) → i < length ms → x ≡ get_or ms i x
      → is_lowered (view_stmt x) ≡ false → code2 ≡ code ++ next_code a (view_stmt x) (length code) h s
      → code ++ stmts_code a gives (listed t.more_stmts (map view_stmt (drop i ms)) last) (length code) to h s ≡ whole
      → code2 ≡ whole
  stmts_stop ms i x last code code2 whole lt is g e so_far =
      e ∙ (sym (stopped_next (view_stmt x) (listed t.more_stmts (map view_stmt (drop (i + 1) ms)) last) code g) ∙ at_stmt ms i x last code whole lt is so_far)

  pub stmts_done : (ms : List Stmt) (i : ℕ) (last : t.Stmts) (code code2 whole : List Instr) → length ms ≤ i
      → code2 ≡ code ++ stmts_code a gives last (length code) to h s
      → code ++ stmts_code a gives (listed t.more_stmts (map view_stmt (drop i ms)) last) (length code) to h s ≡ whole
      → code2 ≡ whole
  stmts_done ms i last code code2 whole le e so_far =
      e ∙ (sym (ap (λ (z : List Stmt). code ++ stmts_code a gives (listed t.more_stmts (map view_stmt z) last) (length code) to h s) (drop_all i ms le)) ∙ so_far)

pub not_true : (b : Bool) → not b ≡ true → b ≡ false
not_true true h = absurd cc
not_true false h = refl

-- ---- lists

pub args_next : (a : Around) (code code2 whole : List Instr) (e : Expr) (i h next next2 : ℕ) (es : List Expr) (s : Scope) → i < length es → e ≡ get_or es i e
    → next ≡ h + i → next2 ≡ next + 1 → code2 ≡ code ++ value_code a (view_expr e) (length code) next (awaited h i s)
    → code ++ args_code a (exprs_of (map view_expr (drop i es))) (length code) next (awaited h i s) ≡ whole
    → code2 ++ args_code a (exprs_of (map view_expr (drop (i + 1) es))) (length code2) next2 (awaited h (i + 1) s) ≡ whole
args_next a code code2 whole e i h next next2 es s lt is en en2 ec so_far =
    let one : drop i es ≡ e ∷ drop (i + 1) es = drop_more es i e lt ∙ ap (λ (y : Expr). y ∷ drop (i + 1) es) (sym is) in
    let rest : t.Exprs = exprs_of (map view_expr (drop (i + 1) es)) in
    let scope : awaited h (i + 1) s ≡ waiting next ∷ awaited h i s = awaited_more h i s ∙ ap (λ (n : ℕ). waiting n ∷ awaited h i s) (sym en) in
    ap (λ (n : ℕ). code2 ++ args_code a rest (length code2) n (awaited h (i + 1) s)) en2
    ∙ (ap (λ (z : Scope). code2 ++ args_code a rest (length code2) (next + 1) z) scope
    ∙ (in_turn code code2 (value_code a (view_expr e) (length code) next (awaited h i s)) (λ place. args_code a rest place (next + 1) (waiting next ∷ awaited h i s)) ec
    ∙ (ap (λ (z : List Expr). code ++ args_code a (exprs_of (map view_expr z)) (length code) next (awaited h i s)) (sym one) ∙ so_far)))

module _ (a : Around) (gives : Bool) (h : ℕ) (s : Scope) (es : List ElseIf) (i : ℕ) (e : ElseIf) (code code2 : List Instr) where
  pub sides_next : (whole : List Instr) → i < length es → e ≡ get_or es i e → code2 ≡ code ++ else_if_code a gives (view_else_if e) 0 (length code) h s
      → code ++ sides_code a gives (map view_else_if (drop i es)) 0 (length code) h s ≡ whole
      → code2 ++ sides_code a gives (map view_else_if (drop (i + 1) es)) 0 (length code2) h s ≡ whole
  sides_next whole lt is ec so_far =
      let one : drop i es ≡ e ∷ drop (i + 1) es = drop_more es i e lt ∙ ap (λ (y : ElseIf). y ∷ drop (i + 1) es) (sym is) in
      let side : List Instr = else_if_code a gives (view_else_if e) 0 (length code) h s in
      let rest : List t.ElseIf = map view_else_if (drop (i + 1) es) in
      let next : ℕ = else_if_end a gives (view_else_if e) (length code) h s + 1 in
      let l1 : length code2 ≡ length code + length side = ap length ec ∙ length-append code side in
      let l2 : length code + length side ≡ next = else_if_length a gives h s (view_else_if e) (length code) 0 in
      ap (λ (n : ℕ). code2 ++ sides_code a gives rest 0 n h s) (l1 ∙ l2)
      ∙ (ap (λ (z : List Instr). z ++ sides_code a gives rest 0 next h s) ec
      ∙ (append_assoc code side (sides_code a gives rest 0 next h s)
      ∙ (ap (λ (z : List ElseIf). code ++ sides_code a gives (map view_else_if z) 0 (length code) h s) (sym one) ∙ so_far)))

  pub ends_next : (ends ends2 whole : List ℕ) → i < length es → e ≡ get_or es i e → code2 ≡ code ++ else_if_code a gives (view_else_if e) 0 (length code) h s
      → ends2 ≡ ends ++ else_if_end a gives (view_else_if e) (length code) h s ∷ []
      → ends ++ sides_ends a gives (map view_else_if (drop i es)) (length code) h s ≡ whole
      → ends2 ++ sides_ends a gives (map view_else_if (drop (i + 1) es)) (length code2) h s ≡ whole
  ends_next ends ends2 whole lt is ec ee so_far =
      let one : drop i es ≡ e ∷ drop (i + 1) es = drop_more es i e lt ∙ ap (λ (y : ElseIf). y ∷ drop (i + 1) es) (sym is) in
      let side : List Instr = else_if_code a gives (view_else_if e) 0 (length code) h s in
      let rest : List t.ElseIf = map view_else_if (drop (i + 1) es) in
      let end : ℕ = else_if_end a gives (view_else_if e) (length code) h s in
      let l1 : length code2 ≡ length code + length side = ap length ec ∙ length-append code side in
      let l2 : length code + length side ≡ end + 1 = else_if_length a gives h s (view_else_if e) (length code) 0 in
      ap (λ (n : ℕ). ends2 ++ sides_ends a gives rest n h s) (l1 ∙ l2)
      ∙ (ap (λ (z : List ℕ). z ++ sides_ends a gives rest (end + 1) h s) ee
      ∙ (append_assoc ends (end ∷ []) (sides_ends a gives rest (end + 1) h s)
      ∙ (ap (λ (z : List ElseIf). ends ++ sides_ends a gives (map view_else_if z) (length code) h s) (sym one) ∙ so_far)))

-- ---- values that aren't used

node_of : t.Expr → t.Node
node_of (t.expr x node) = node

unused_by : (a : Around) (place h : ℕ) (s : Scope) (e : t.Expr) → unused_code a e place h s ≡ (if is_set e then set_only_code a (node_of e) place h s else expr_code a e place h s)
unfolding node_of
unused_by a place h s (t.expr x (t.set at p e)) = refl
unused_by a place h s (t.expr x (t.chain e ls)) = refl
unused_by a place h s (t.expr x (t.unary at op e)) = refl
unused_by a place h s (t.expr x (t.steps e ss)) = refl
unused_by a place h s (t.expr x (t.number at n)) = refl
unused_by a place h s (t.expr x (t.quote at text)) = refl
unused_by a place h s (t.expr x (t.truth at b)) = refl
unused_by a place h s (t.expr x (t.name n is_outer moved)) = refl
unused_by a place h s (t.expr x (t.call n f es)) = refl
unused_by a place h s (t.expr x (t.paren at e)) = refl
unused_by a place h s (t.expr x (t.array at y es)) = refl
unused_by a place h s (t.expr x (t.iso at b)) = refl
unused_by a place h s (t.expr x (t.form f)) = refl

pub unused_by_test : (a : Around) (place h : ℕ) (s : Scope) (e : Expr) → unused_code a (view_expr e) place h s ≡ (if is_set (view_expr e) then set_only_code a (view_node (out-Expr e).node) place h s else expr_code a (view_expr e) place h s)
unfolding node_of
unused_by_test a place h s e =
    unused_by a place h s (view_expr e)
    ∙ ap (λ (z : t.Expr). if is_set (view_expr e) then set_only_code a (node_of z) place h s else expr_code a (view_expr e) place h s) (of_out_expr e)

-- a counted loop
pub set_count : (base c1 c2 : List Instr) (body : ℕ → List Instr) (at : Spot) (h start : ℕ)
    → start ≡ length base + 1
    → c1 ≡ base ++ i.Sub (h + 1 + 1) h h at ∷ i.Jump 0 ∷ i.Tick ∷ i.Copy (h + 1 + 1) h ∷ [] → c2 ≡ c1 ++ body (length c1)
    → slice_set ((c2 ++ i.Int (h + 1 + 1) (pos 1) ∷ i.Add h h (h + 1 + 1) at ∷ i.Cmp (h + 1 + 1) 2 h (h + 1) ∷ []) ++ i.Unless (h + 1 + 1) (length c2 + 1 + 1 + 1 + 1 + 1) ∷ i.Jump (start + 1) ∷ []) start (i.Jump (length c2 + 1 + 1))
    ≡ base ++ count_code (length base) h at body
set_count base c1 c2 body at h start es e1 e2 =
    let r : ℕ = h + 1 + 1 in
    let d0 : List Instr = base ++ i.Sub r h h at ∷ [] in
    let d1 : List Instr = d0 ++ i.Jump 0 ∷ [] in
    let d2 : List Instr = d1 ++ i.Tick ∷ [] in
    let m1 = length-append base (i.Sub r h h at ∷ []) in
    let m2 = length-append d0 (i.Jump 0 ∷ []) in
    let m3 = length-append d1 (i.Tick ∷ []) in
    let n1 = ap length e1 ∙ length-append base (i.Sub r h h at ∷ i.Jump 0 ∷ i.Tick ∷ i.Copy r h ∷ []) in
    let tail : List Instr = i.Int r (pos 1) ∷ i.Add h h r at ∷ [] in
    let d3 : List Instr = c2 ++ tail in
    let test : List Instr = i.Cmp r 2 h (h + 1) ∷ [] in
    let d4 : List Instr = d3 ++ test in
    let m4 = length-append c2 tail in
    let m5 = length-append d3 test in
    let q0 : start ≡ length d0 = omega arith in
    let q1 : length c1 ≡ length d2 + 1 = omega arith in
    let q3 : length c2 + 1 + 1 ≡ length d3 = omega arith in
    let q4 : length c2 + 1 + 1 + 1 + 1 + 1 ≡ length d4 + 1 + 1 = omega arith in
    let f1 : c1 ≡ d2 ++ i.Copy r h ∷ [] = e1 ∙ simp append_assoc in
    let f2 : c2 ≡ c1 ++ body (length d2 + 1) = e2 ∙ ap (λ n. c1 ++ body n) q1 in
    let b : ℕ → List Instr = λ place. i.Copy r h ∷ (body (place + 1) ++ tail) in
    let f3 : d3 ≡ d2 ++ b (length d2) = ap (λ z. z ++ tail) (f2 ∙ ap (λ z. z ++ body (length d2 + 1)) f1) ∙ simp append_assoc in
    let f4 : (c2 ++ i.Int r (pos 1) ∷ i.Add h h r at ∷ i.Cmp r 2 h (h + 1) ∷ []) ≡ d4 = simp append_assoc in
    ap (λ z. slice_set (z ++ i.Unless r (length c2 + 1 + 1 + 1 + 1 + 1) ∷ i.Jump (start + 1) ∷ []) start (i.Jump (length c2 + 1 + 1))) f4
    ∙ ap (λ n. slice_set (d4 ++ i.Unless r n ∷ i.Jump (start + 1) ∷ []) start (i.Jump (length c2 + 1 + 1))) q4
    ∙ set_loop d0 (λ place. test) b d1 d2 d3 d4 (i.Jump 0) start (length c2 + 1 + 1) r q0 refl refl f3 q3 refl
    ∙ append_assoc base (i.Sub r h h at ∷ []) (loop_code (length d0) r (λ place. test) b)
    ∙ ap (λ n. base ++ i.Sub r h h at ∷ loop_code n r (λ place. test) b) m1

-- ---- what the walk cites

pub ruleset exprs = (expr_by_parts, value_by_parts)

pub ruleset unused = (unused_by_test)

pub ruleset nodes = (v.of_set, v.of_chain, v.of_unary, v.of_steps, v.of_number, v.of_quote, v.of_truth, v.of_name, v.of_call, v.of_paren, v.of_elements, v.of_isolate, v.of_form, name_by_move, type_by_parts, count_is, append_assoc, length-append)

pub ruleset lists = (links_first, append_assoc, append-nil, length-append, awaited_more)

pub ruleset links = (link_by_parts, append_assoc)

pub ruleset forms = (v.of_if, v.of_pure, v.of_parallel_range, v.of_parallel_each)

pub ruleset sides = (else_if_by_parts, else_if_ends_by_parts)

pub ruleset lasts = (type_by_parts, append_assoc, append-nil)

pub ruleset blocks = (block_by_parts)

pub ruleset nexts = (v.of_declare, v.of_destructure, v.of_return_nothing, v.of_return_value, v.of_return, v.of_while, v.of_foreach, v.of_form_stmt, v.of_express, framed_more)

pub ruleset stmts = (v.of_declare, v.of_destructure, v.of_return_nothing, v.of_return_value, v.of_while, v.of_foreach, v.of_form_stmt, v.of_express, append_assoc, append-nil)
