-- The code of a program. Each part of it follows from a part of the program, by its place in its function, by the register h that
-- gets its value, and by the locals in scope; registers below h keep what they hold, but for those of locals that are set.
use Rattle.std.specs.Prelude.{ℕ, suc, ◌+◌, max, Bool, true, false, ◌&&◌, List, [], ◌∷◌, ◌++◌, length, map, flat_map, codes}
use Rattle.vale_text.specs.Operations.{is_int}
use Rattle.vale_syntax.specs.declared.tree.NameAt.{NameAt}
use Rattle.vale_rules_spec.specs.Declarations.{head_params, param_type}
use Rattle.vale_rules_spec.specs.Types.{is_copy, type_of}
use Rattle.vale_rules_spec.specs.Typed.{Callee, built_in, constructor, function, Expr, expr, Node, set, chain, unary, steps, number, quote, truth, name, call, paren, array, iso, form, Exprs, no_exprs, more_exprs, link, Links, no_links, more_links, Form, branch, pure, parallel_range, parallel_each, else_if, Elses, no_else, otherwise, more_elses, Block, block, Stmt, declare, destructure, return_nothing, return_value, while, foreach, form_stmt, express, Stmts, no_stmts, last, more_stmts, Function, Typed, type}
use Rattle.vale_model.specs.Kinds.{head_of, body_of}
use Rattle.vale_model.specs.Parts.{Parts, parts_of, name_text, name_of, param_names, has_name, has_text, first_function, functions_of, is_pure}
use Rattle.vale_code.specs.Operands.{room_for}
use Rattle.vale_code.specs.Parts.{Parts as Code}
use Rattle.vale_code.specs.declared.func.Func.{Func}
use Rattle.vale_code.specs.declared.instr.Instr.{Instr}
use Rattle.vale_code.specs.declared.instr.Instr.TheVariants as i
use Rattle.vale_lowering.specs.Instructions.{stuck, only_if, then_at, load, store, exchange, if_code, loop_code, count_code, link_code, unary_code, registers_from, built_in_code}
use Rattle.vale_lowering.specs.Scopes.{Scope, entry, waiting, place_of, parameters, code_type, agree, Around, number_of_text, number_of_function, may_be_called, result_type}
use Rattle.vale_lowering.specs.Texts.{function_quotes, is_lawful_text}

abbrev pub count : Exprs → ℕ
count no_exprs = 0
count (more_exprs e es) = suc (count es)

abbrev pub truth_number : Bool → ℕ
truth_number true = 1
truth_number false = 0

-- a call of the first function of a name, of so many values from h on
abbrev pub call_code : Around → Bool → NameAt → ℕ → ℕ → List Instr
call_code around gives n values h =
    only_if (may_be_called gives (first_function (has_name n.name.0) around.functions)) h
    (i.Call h (number_of_function (has_name n.name.0) around.functions) (registers_from h values) n.at ∷ [])

abbrev pub callee_code : Around → Bool → NameAt → Callee → ℕ → ℕ → List Instr
callee_code around gives n (built_in f) values h = built_in_code f values gives n.at h
callee_code around gives n constructor values h = stuck h
callee_code around gives n (function is_pure) values h = call_code around gives n values h

-- the set of a local, whose new value stands in h
abbrev pub set_code : Expr → ℕ → Scope → List Instr
set_code (expr x (name n is_outer moved)) h s = exchange (place_of n.name.0 s) h
set_code (expr x _) h s = stuck h

-- the same, where what the local held isn't used
abbrev pub store_code : Expr → ℕ → Scope → List Instr
store_code (expr x (name n is_outer moved)) h s = store (place_of n.name.0 s) h
store_code (expr x _) h s = stuck h

abbrev mutual
  -- the value goes to h, where its type has one
  pub expr_code : Around → Expr → ℕ → ℕ → Scope → List Instr
  expr_code around (expr x node) place h s = node_code around (is_copy x.value) node place h s

  -- an expression whose value is used
  pub value_code : Around → Expr → ℕ → ℕ → Scope → List Instr
  value_code around (expr x node) place h s = only_if (is_copy x.value) h (node_code around (is_copy x.value) node place h s)

  pub node_code : Around → Bool → Node → ℕ → ℕ → Scope → List Instr
  node_code around gives (number at n) place h s = only_if (gives && is_int n) h (i.Int h n ∷ [])
  node_code around gives (quote at text) place h s = only_if (gives && is_lawful_text text) h (i.Text h (number_of_text text around.texts) ∷ [])
  node_code around gives (truth at b) place h s = only_if gives h (i.Truth h (truth_number b) ∷ [])
  node_code around gives (name n is_outer true) place h s = stuck h
  node_code around gives (name n is_outer false) place h s = only_if gives h (load (place_of n.name.0 s) h)
  node_code around gives (paren at e) place h s = only_if (agree gives (is_copy (type e))) h (expr_code around e place h s)
  node_code around gives (chain e ls) place h s =
      only_if gives h (then_at place (value_code around e place h s) (λ place. links_code around ls place h s))
  node_code around gives (unary at op e) place h s = only_if gives h (value_code around e place h s ++ unary_code op at h)
  node_code around gives (set at p e) place h s = only_if gives h (value_code around e place h s ++ set_code p h s)
  node_code around gives (call n f es) place h s = args_code around es place h s ++ callee_code around gives n f (count es) h
  node_code around gives (form f) place h s = form_code around gives f place h s
  node_code around gives (steps e ss) place h s = stuck h
  node_code around gives (array at x es) place h s = stuck h
  node_code around gives (iso at b) place h s = stuck h

  -- the values go to h and the registers after it; each waits for those after it
  pub args_code : Around → Exprs → ℕ → ℕ → Scope → List Instr
  args_code around no_exprs place h s = []
  args_code around (more_exprs e es) place h s =
      then_at place (value_code around e place h s) (λ place. args_code around es place (h + 1) (waiting h ∷ s))

  -- what stands in h, with the operators after it
  pub links_code : Around → Links → ℕ → ℕ → Scope → List Instr
  links_code around no_links place h s = []
  links_code around (more_links (link x at op e) ls) place h s =
      then_at place (link_code op x.value at (λ place h. value_code around e place h s) place h) (λ place. links_code around ls place h s)

  pub form_code : Around → Bool → Form → ℕ → ℕ → Scope → List Instr
  form_code around gives (branch at c b es) place h s =
      if_code place h (value_code around c place h s) (λ place. block_code around gives b place h (h + 1) s) (λ place. elses_code around gives es place h s)
  form_code around gives (pure at b) place h s = stuck h
  form_code around gives (parallel_range at n a e b) place h s = stuck h
  form_code around gives (parallel_each at n e b) place h s = stuck h

  pub elses_code : Around → Bool → Elses → ℕ → ℕ → Scope → List Instr
  elses_code around gives no_else place h s = only_if (agree gives false) h []
  elses_code around gives (otherwise b) place h s = block_code around gives b place h (h + 1) s
  elses_code around gives (more_elses (else_if at c b) es) place h s =
      if_code place h (value_code around c place h s) (λ place. block_code around gives b place h (h + 1) s) (λ place. elses_code around gives es place h s)

  -- A block's value, where one is wanted, goes to the register `to`, which no local has; its locals and temporaries stand from h on.
  pub block_code : Around → Bool → Block → ℕ → ℕ → ℕ → Scope → List Instr
  block_code around gives (block at end x ss) place to h s = stmts_code around gives ss place to h s

  pub stmts_code : Around → Bool → Stmts → ℕ → ℕ → ℕ → Scope → List Instr
  stmts_code around gives no_stmts place to h s = only_if (agree gives false) h []
  stmts_code around true (last e) place to h s = value_code around e place h s ++ (i.Copy to h ∷ [])
  stmts_code around false (last e) place to h s = only_if (agree false (is_copy (type e))) h (expr_code around e place h s)
  stmts_code around gives (more_stmts (declare n x e) ss) place to h s =
      then_at place (value_code around e place h s) (λ place. stmts_code around gives ss place to (h + 1) (entry n.name.0 h ∷ s))
  stmts_code around gives (more_stmts (destructure at ns xs e) ss) place to h s = stuck h
  stmts_code around gives (more_stmts x ss) place to h s =
      then_at place (stmt_code around x place h s) (λ place. stmts_code around gives ss place to h s)

  pub stmt_code : Around → Stmt → ℕ → ℕ → Scope → List Instr
  stmt_code around (declare n x e) place h s = stuck h
  stmt_code around (destructure at ns xs e) place h s = stuck h
  stmt_code around (return_nothing at) place h s = only_if (agree around.gives false) h (i.RetVoid ∷ [])
  stmt_code around (return_value at e) place h s = only_if around.gives h (value_code around e place h s ++ (i.Ret h ∷ []))
  stmt_code around (while at c b) place h s =
      loop_code place h (λ place. value_code around c place h s) (λ place. block_code around false b place h (h + 1) s)
  -- the counter in h, the bound in h + 1, and the local after both
  stmt_code around (foreach at n a e b) place h s =
      then_at place (value_code around a place h s) (λ place.
      then_at place (value_code around e place (h + 1) s) (λ place.
      count_code place h at (λ place. block_code around false b place h (h + 1 + 1 + 1) (entry n.name.0 (h + 1 + 1) ∷ s))))
  stmt_code around (form_stmt f) place h s = form_code around false f place h s
  stmt_code around (express e) place h s = unused_code around e place h s

  -- an expression whose value isn't used
  pub unused_code : Around → Expr → ℕ → ℕ → Scope → List Instr
  unused_code around (expr x (set at p e)) place h s = value_code around e place h s ++ store_code p h s
  unused_code around (expr x node) place h s = node_code around (is_copy x.value) node place h s

-- ---- functions

-- more than each register that one of these instructions names
abbrev pub registers_in : List Instr → ℕ
registers_in [] = 0
registers_in (x ∷ xs) = max (room_for x) (registers_in xs)

-- A function that gives a value has returned before its end: the register after its parameters is never written.
abbrev pub end_code : Bool → ℕ → List Instr
end_code true to = i.Ret to ∷ []
end_code false to = i.RetVoid ∷ []

abbrev pub around_of : List (List ℕ) → List Function → Function → Around
around_of texts fs f = record { texts = texts; functions = fs; gives = is_copy (result_type f) }

abbrev pub names_in : Function → List ℕ
names_in f = param_names (head_params (head_of f))

abbrev pub body_code : Around → List ℕ → Block → List Instr
body_code around ns b =
    block_code around false b 0 (length ns) (length ns + 1) (parameters 0 ns []) ++ end_code around.gives (length ns)

abbrev pub lowered_body : List (List ℕ) → List Function → Function → List Instr
lowered_body texts fs f = body_code (around_of texts fs f) (names_in f) (body_of f)

-- 1 for a pure one
abbrev pub form_of : Bool → ℕ
form_of true = 1
form_of false = 0

abbrev pub lowered_function : Parts → List (List ℕ) → List Function → Function → Func
lowered_function p texts fs f = record {
  name = number_of_text (name_text p (name_of f)) texts;
  form = form_of (is_pure f);
  params = map (λ q. code_type (type_of (param_type q))) (head_params (head_of f));
  result = code_type (result_type f);
  registers = max (length (names_in f) + 1) (registers_in (lowered_body texts fs f));
  body = lowered_body texts fs f;
}

-- ---- programs

abbrev pub functions_in : Parts → List Function
functions_in p = flat_map functions_of p.items

-- the names of the functions, and then the quotes, in the order of the program
abbrev pub texts_in : Parts → List Function → List (List ℕ)
texts_in p fs = map (λ f. name_text p (name_of f)) fs ++ flat_map function_quotes fs

abbrev pub lowered_parts : Parts → Code
lowered_parts p = let fs = functions_in p in let texts = texts_in p fs in record {
  texts = texts;
  kinds = [];
  impls = [];
  funcs = map (lowered_function p texts fs) fs;
  main = number_of_function (has_text p (codes "main")) fs;
}

-- the code of a program
abbrev pub lowered : Typed → Code
lowered program = lowered_parts (parts_of program)
