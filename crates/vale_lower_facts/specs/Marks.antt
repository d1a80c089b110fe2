-- The labels of lowered code: at the targets of its jumps, and after each instruction that doesn't go on.
--
-- A part of the code doesn't label the place after it, where another part may end too. It says whether that place is due a label,
-- and the instruction that stands there is marked with what is known where its own part begins, which is never more. So one walk
-- gives all labels in order: whether one is due is handed on to the next instruction.
use Rattle.std.specs.Prelude.{ℕ, ◌+◌, Bool, true, false, ◌&&◌, List, [], ◌∷◌, ◌++◌, length, map, Option, Some, None, if◌then◌else◌}
use Rattle.vale_syntax.specs.declared.tree.BinaryOp.{BinaryOp}
use Rattle.vale_syntax.specs.declared.tree.BinaryOp.TheVariants as op
use Rattle.vale_syntax.specs.Tree.{Param, param}
use Rattle.vale_rules_spec.specs.Declarations.{head_params}
use Rattle.vale_rules_spec.specs.Types.{Ty, int, bool, is_copy, type_of}
use Rattle.vale_rules_spec.specs.Typed.{Expr, expr, Node, set, chain, unary, steps, number, quote, truth, name, call, paren, array, iso, form, Exprs, no_exprs, more_exprs, link, Links, no_links, more_links, Form, branch, pure, parallel_range, parallel_each, else_if, Elses, no_else, otherwise, more_elses, Block, block, Stmt, declare, destructure, return_nothing, return_value, while, foreach, form_stmt, express, Stmts, no_stmts, last, more_stmts, Function, Typed, type, block_type}
use Rattle.vale_model.specs.Kinds.{head_of, body_of}
use Rattle.vale_model.specs.Parts.{Parts, parts_of}
use Rattle.vale_code.specs.declared.instr.Instr.{Instr}
use Rattle.vale_code.specs.declared.ty.Ty.{Ty as CodeTy}
use Rattle.vale_cert.specs.declared.facts.FuncFacts.{FuncFacts}
use Rattle.vale_cert.specs.declared.facts.Label.{Label}
use Rattle.vale_lowering.specs.Instructions.{unary_code}
use Rattle.vale_lowering.specs.Scopes.{code_type, agree, Around, result_type}
use Rattle.vale_lowering.specs.Lowered.{count, callee_code, set_code, store_code, around_of, names_in, lowered_function, functions_in, texts_in}
use Rattle.vale_rules_spec.specs.Returns.{block_returns, stmt_returns, expr_returns}
use Rattle.vale_lower_facts.specs.Slots.{Slots, local, waits, holds, Stand, scope_at, with_slot, given, behind, Last, label_for}

-- what each instruction of some code is marked with
abbrev pub Marks : Type 0
Marks = List (Option Stand)

-- the mark of an instruction, whether its place is due a label
abbrev pub mark : Bool → Stand → Option Stand
mark false s = None
mark true s = Some s

abbrev pub unmarked : List Instr → Marks
unmarked [] = []
unmarked (x ∷ xs) = None ∷ unmarked xs

-- instructions with no label among them
abbrev pub marked : Bool → Stand → List Instr → Marks
marked due s [] = []
marked due s (x ∷ xs) = mark due s ∷ unmarked xs

-- as `only_if` chooses the code
abbrev pub only_marks : Bool → Bool → Stand → Marks → Marks
only_marks true due s ms = ms
only_marks false due s ms = mark due s ∷ []

-- ---- whether the place after a part is due a label

abbrev pub link_due : BinaryOp → Bool
link_due op.Or = true
link_due op.And = true
link_due _ = false

abbrev pub links_due : Links → Bool → Bool
links_due no_links due = due
links_due (more_links (link x at op e) ls) due = links_due ls (link_due op)

abbrev pub form_due : Form → Bool
form_due (branch at c b es) = true
form_due _ = false

abbrev mutual
  pub expr_due : Expr → Bool
  expr_due (expr x node) = node_due (is_copy x.value) node

  pub node_due : Bool → Node → Bool
  node_due gives (paren at e) = agree gives (is_copy (type e)) && expr_due e
  node_due gives (chain e ls) = gives && links_due ls (is_copy (type e) && expr_due e)
  node_due gives (form f) = form_due f
  node_due gives _ = false

-- of an expression whose value is used
abbrev pub value_due : Expr → Bool
value_due e = is_copy (type e) && expr_due e

abbrev pub unused_due : Expr → Bool
unused_due (expr x (set at p e)) = false
unused_due (expr x node) = node_due (is_copy x.value) node

abbrev pub args_due : Exprs → Bool → Bool
args_due no_exprs due = due
args_due (more_exprs e es) due = args_due es (value_due e)

-- where the function gives a value or gives none
abbrev pub stmt_due : Bool → Stmt → Bool
stmt_due gives (return_nothing at) = agree gives false
stmt_due gives (return_value at e) = gives
stmt_due gives (while at c b) = true
stmt_due gives (foreach at n a e b) = true
stmt_due gives (form_stmt f) = form_due f
stmt_due gives (express e) = unused_due e
stmt_due gives _ = false

-- where the block's value is wanted or isn't, in a function that gives a value or gives none
abbrev pub stmts_due : Bool → Bool → Stmts → Bool → Bool
stmts_due returns gives no_stmts due = agree gives false && due
stmts_due returns true (last e) due = false
stmts_due returns false (last e) due = agree false (is_copy (type e)) && expr_due e
stmts_due returns gives (more_stmts (declare n x e) ss) due = stmts_due returns gives ss (value_due e)
stmts_due returns gives (more_stmts (destructure at ns xs e) ss) due = false
stmts_due returns gives (more_stmts x ss) due = stmts_due returns gives ss (stmt_due returns x)

abbrev pub block_due : Bool → Bool → Block → Bool → Bool
block_due returns gives (block at end x ss) due = stmts_due returns gives ss due

-- ---- the marks of the shapes of code

-- of a test and two sides, by what is known at the test's jump and at the jump after the first side, and whether labels are due there
abbrev pub if_marks : Marks → Bool → Stand → Marks → Bool → Stand → Marks → Marks
if_marks test due tested one due_behind behind_one two = test ++ (mark due tested ∷ (one ++ (mark due_behind behind_one ∷ two)))

-- the same, of a test and a body
abbrev pub loop_marks : Bool → Stand → Marks → Marks → Bool → Stand → Marks
loop_marks due s body test due_behind tested = mark due s ∷ Some s ∷ (body ++ (test ++ (mark due_behind tested ∷ None ∷ [])))

-- of a loop over numbers, by what is known after the bounds, after the body and after the test
abbrev pub count_marks : Bool → Stand → Marks → Bool → Stand → Stand → Marks
count_marks due s body due_behind behind_body tested =
    mark due s ∷ loop_marks false s (None ∷ (body ++ (mark due_behind behind_body ∷ None ∷ []))) (Some s ∷ []) false tested

-- of an operator between h, which holds a value of the type x, and an operand of the type y
abbrev pub link_marks : BinaryOp → Ty → Ty → Bool → (ℕ → Stand → Bool → Marks) → ℕ → Stand → Bool → Marks
link_marks op.Or x y due_behind operand h s due = if_marks [] due (with_slot (holds h x) s) [] false s (operand h s true)
link_marks op.And x y due_behind operand h s due = mark due (with_slot (holds h x) s) ∷ operand h s false
link_marks o x y due_behind operand h s due =
    operand (h + 1) (with_slot (holds h x) s) due ++ (mark due_behind (with_slot (holds (h + 1) y) (with_slot (holds h x) s)) ∷ [])

-- ---- the marks of the parts of a program

-- what is known where a loop over numbers begins: h and h + 1 hold the counter and the bound
abbrev pub counted : Ty → Ty → ℕ → Stand → Stand
counted x y h s = with_slot (holds (h + 1) y) (with_slot (holds h x) s)

-- the values of a call's arguments, from a register on
abbrev pub with_args : Exprs → ℕ → Stand → Stand
with_args no_exprs h s = s
with_args (more_exprs e es) h s = with_args es (h + 1) (with_slot (waits h (type e)) s)

abbrev mutual
  pub expr_marks : Around → Expr → ℕ → Stand → Bool → Marks
  expr_marks around (expr x node) h s due = node_marks around (is_copy x.value) node h s due

  pub value_marks : Around → Expr → ℕ → Stand → Bool → Marks
  value_marks around (expr x node) h s due = only_marks (is_copy x.value) due s (node_marks around (is_copy x.value) node h s due)

  pub node_marks : Around → Bool → Node → ℕ → Stand → Bool → Marks
  node_marks around gives (number at n) h s due = mark due s ∷ []
  node_marks around gives (quote at text) h s due = mark due s ∷ []
  node_marks around gives (truth at b) h s due = mark due s ∷ []
  node_marks around gives (name n is_outer moved) h s due = mark due s ∷ []
  node_marks around gives (paren at e) h s due = only_marks (agree gives (is_copy (type e))) due s (expr_marks around e h s due)
  node_marks around gives (chain e ls) h s due =
      only_marks gives due s (value_marks around e h s due ++ links_marks around (type e) ls h s (value_due e))
  node_marks around gives (unary at op e) h s due =
      only_marks gives due s (value_marks around e h s due ++ marked (value_due e) (with_slot (holds h (type e)) s) (unary_code op at h))
  node_marks around gives (set at p e) h s due =
      only_marks gives due s
      (value_marks around e h s due ++ marked (value_due e) (with_slot (holds h (type e)) s) (set_code p h (scope_at s)))
  node_marks around gives (call n f es) h s due =
      args_marks around es h s due ++ marked (args_due es due) (with_args es h s) (callee_code around gives n f (count es) h)
  node_marks around gives (form f) h s due = form_marks around gives f h s due
  node_marks around gives (steps e ss) h s due = mark due s ∷ []
  node_marks around gives (array at x es) h s due = mark due s ∷ []
  node_marks around gives (iso at b) h s due = mark due s ∷ []

  pub args_marks : Around → Exprs → ℕ → Stand → Bool → Marks
  args_marks around no_exprs h s due = []
  args_marks around (more_exprs e es) h s due =
      value_marks around e h s due ++ args_marks around es (h + 1) (with_slot (waits h (type e)) s) (value_due e)

  -- where h holds a value of a type, and s says what the other registers hold
  pub links_marks : Around → Ty → Links → ℕ → Stand → Bool → Marks
  links_marks around x no_links h s due = []
  links_marks around x (more_links (link y at op e) ls) h s due =
      link_marks op x (type e) (value_due e) (λ h s due. value_marks around e h s due) h s due ++ links_marks around y.value ls h s (link_due op)

  pub form_marks : Around → Bool → Form → ℕ → Stand → Bool → Marks
  form_marks around gives (branch at c b es) h s due =
      if_marks (value_marks around c h s due) (value_due c) (with_slot (holds h (type c)) s)
      (block_marks around gives b (h + 1) s false) (block_due around.gives gives b false)
      (given gives h (block_type b) (behind (block_returns b) s)) (elses_marks around gives es h s true)
  form_marks around gives (pure at b) h s due = mark due s ∷ []
  form_marks around gives (parallel_range at n a e b) h s due = mark due s ∷ []
  form_marks around gives (parallel_each at n e b) h s due = mark due s ∷ []

  pub elses_marks : Around → Bool → Elses → ℕ → Stand → Bool → Marks
  elses_marks around gives no_else h s due = only_marks (agree gives false) due s []
  elses_marks around gives (otherwise b) h s due = block_marks around gives b (h + 1) s due
  elses_marks around gives (more_elses (else_if at c b) es) h s due =
      if_marks (value_marks around c h s due) (value_due c) (with_slot (holds h (type c)) s)
      (block_marks around gives b (h + 1) s false) (block_due around.gives gives b false)
      (given gives h (block_type b) (behind (block_returns b) s)) (elses_marks around gives es h s true)

  pub block_marks : Around → Bool → Block → ℕ → Stand → Bool → Marks
  block_marks around gives (block at end x ss) h s due = stmts_marks around gives ss h s due

  pub stmts_marks : Around → Bool → Stmts → ℕ → Stand → Bool → Marks
  stmts_marks around gives no_stmts h s due = only_marks (agree gives false) due s []
  stmts_marks around true (last e) h s due =
      value_marks around e h s due ++ (mark (value_due e) (with_slot (holds h (type e)) (behind (expr_returns e) s)) ∷ [])
  stmts_marks around false (last e) h s due = only_marks (agree false (is_copy (type e))) due s (expr_marks around e h s due)
  stmts_marks around gives (more_stmts (declare n x e) ss) h s due =
      value_marks around e h s due ++ stmts_marks around gives ss (h + 1) (with_slot (local n.name.0 h x) s) (value_due e)
  stmts_marks around gives (more_stmts (destructure at ns xs e) ss) h s due = mark due s ∷ []
  stmts_marks around gives (more_stmts x ss) h s due =
      stmt_marks around x h s due ++ stmts_marks around gives ss h (behind (stmt_returns x) s) (stmt_due around.gives x)

  pub stmt_marks : Around → Stmt → ℕ → Stand → Bool → Marks
  stmt_marks around (declare n x e) h s due = mark due s ∷ []
  stmt_marks around (destructure at ns xs e) h s due = mark due s ∷ []
  stmt_marks around (return_nothing at) h s due = mark due s ∷ []
  stmt_marks around (return_value at e) h s due =
      only_marks around.gives due s (value_marks around e h s due ++ (mark (value_due e) (with_slot (holds h (type e)) s) ∷ []))
  stmt_marks around (while at c b) h s due =
      loop_marks due s (block_marks around false b (h + 1) s false) (value_marks around c h s true) (value_due c)
      (with_slot (holds h (type c)) s)
  stmt_marks around (foreach at n a e b) h s due =
      value_marks around a h s due
      ++ (value_marks around e (h + 1) (with_slot (holds h (type a)) s) (value_due a)
      ++ count_marks (value_due e) (counted (type a) (type e) h s)
      (block_marks around false b (h + 1 + 1 + 1) (with_slot (local n.name.0 (h + 1 + 1) int) (counted (type a) (type e) h s)) false)
      (block_due around.gives false b false) (behind (block_returns b) (counted (type a) (type e) h s))
      (with_slot (holds (h + 1 + 1) bool) (counted (type a) (type e) h s)))
  stmt_marks around (form_stmt f) h s due = form_marks around false f h s due
  stmt_marks around (express e) h s due = unused_marks around e h s due

  pub unused_marks : Around → Expr → ℕ → Stand → Bool → Marks
  unused_marks around (expr x (set at p e)) h s due =
      value_marks around e h s due ++ marked (value_due e) (with_slot (holds h (type e)) s) (store_code p h (scope_at s))
  unused_marks around (expr x node) h s due = node_marks around (is_copy x.value) node h s due

-- ---- functions and programs

-- the parameters have the first registers, in order
abbrev pub param_slots : ℕ → List Param → Slots → Slots
param_slots r [] s = s
param_slots r (param n x ∷ ps) s = param_slots (r + 1) ps (local n.name.0 r (type_of x) ∷ s)

abbrev pub entry_stand : Function → Stand
entry_stand f = record { slots = param_slots 0 (head_params (head_of f)) []; over = false }

abbrev pub function_marks : Around → Function → Marks
function_marks around f =
    block_marks around false (body_of f) (length (names_in f) + 1) (entry_stand f) false
    ++ (mark (block_due around.gives false (body_of f) false) (behind (block_returns (body_of f)) (entry_stand f)) ∷ [])

-- the code's type of a value, where there is one
abbrev pub value_type : Ty → Option CodeTy
value_type x = if is_copy x then Some (code_type x) else None

abbrev pub last_of : Function → Last
last_of f = record { register = length (names_in f); ty = value_type (result_type f) }

abbrev pub with_label : Last → ℕ → ℕ → Option Stand → List Label → List Label
with_label l registers place None labels = labels
with_label l registers place (Some s) labels = label_for l registers place s ∷ labels

-- the labels from a place on
abbrev pub labels_from : Last → ℕ → ℕ → Marks → List Label
labels_from l registers place [] = []
labels_from l registers place (m ∷ ms) = with_label l registers place m (labels_from l registers (place + 1) ms)

abbrev pub function_facts : Parts → List (List ℕ) → List Function → Function → FuncFacts
function_facts p texts fs f = record {
  live = [];
  labels = labels_from (last_of f) (lowered_function p texts fs f).registers 0 (function_marks (around_of texts fs f) f);
}

abbrev pub facts_of_parts : Parts → List FuncFacts
facts_of_parts p = let fs = functions_in p in map (function_facts p (texts_in p fs) fs) fs

-- the facts with which the code of a program is certified
abbrev pub lowered_facts : Typed → List FuncFacts
lowered_facts program = facts_of_parts (parts_of program)
