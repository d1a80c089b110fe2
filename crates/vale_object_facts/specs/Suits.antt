-- What the certificate needs of a typed program: the types of its parts fit. What the law doesn't speak of yet suits nothing.
use Rattle.std.specs.Prelude.{◌≡◌, ℕ, true, false, not, ◌||◌, List, [], ◌∷◌, map, Bool, Some, slice_get, nat_lt, ◌⊎◌}
use Rattle.std.specs.List.{list_all}
use Rattle.vale_syntax.specs.declared.built_in.BuiltIn.{BuiltIn}
use Rattle.vale_syntax.specs.declared.built_in.BuiltIn.TheVariants as b
use Rattle.vale_syntax.specs.declared.tree.NameAt.{NameAt}
use Rattle.vale_syntax.specs.declared.tree.UnaryOp.TheVariants as unary_op
use Rattle.vale_rules_spec.specs.TypeRules.{is_iso, takes_operands, link_gives}
use Rattle.vale_rules_spec.specs.Types.{Ty, void, int, bool, str, kind, array, ref, imm, is_owner, is_owned, is_copy, View, blind, direct, shared, frozen, seen_object, is_frozen, Seen, part_seen, Local, local_of}
use Rattle.vale_rules_spec.specs.Typed.{Callee, built_in, constructor, function, Expr, expr, Node, set, chain, unary, steps, number, quote, truth, name, call, paren, iso, form, Function, Exprs, no_exprs, more_exprs, link, Links, no_links, more_links, Step, field, method, index, Steps, no_steps, more_steps, Form, branch, pure, parallel_range, parallel_each, else_if, Elses, no_else, otherwise, more_elses, Block, block, Stmt, declare, destructure, return_nothing, return_value, while, foreach, form_stmt, express, Stmts, no_stmts, last, more_stmts, type, types, step_seen}
use Rattle.vale_rules_spec.specs.Typed as tree
use Rattle.vale_rules_spec.specs.Typing.{Env, with_local, after}
use Rattle.vale_model.specs.Parts.{Parts, kind_of, field_place, has_name}
use Rattle.vale_code.specs.Kinds as code
use Rattle.vale_code.specs.Parts.{Parts as Code}
use Rattle.vale_code.specs.declared.func.Func.{Func}
use Rattle.vale_code.specs.declared.instr.Instr.{Instr}
use Rattle.vale_code.specs.declared.instr.Instr.TheVariants as i
use Rattle.vale_code.specs.declared.ty.Ty.{Ty as CodeTy}
use Rattle.vale_cert.specs.Objects.{fields_of, field_of, item_of}
use Rattle.vale_lowering.specs.Scopes.{number_of_text, number_of_function}
use Rattle.vale_lowering_objects.specs.Lowered.{step_view}
use Rattle.vale_lowering_objects.specs.Program.{code_type}
use Rattle.vale_object_facts.specs.Stands.{lent, lent_last}

-- ---- code without instructions that no step follows

abbrev pub is_sure : Instr → Bool
is_sure (i.Truth to n) = nat_lt n 2
is_sure _ = true

-- as the code is of a program that keeps the rules of types and ownership
abbrev pub Sure : List Instr → Type 0
Sure cs = list_all is_sure cs ≡ true

-- ---- types that fit

-- a name is that of a local of this type, of the depth at hand
pub record IsLocal (env : Env) (n : NameAt) (ty : Ty) : Type 0 where
  pub is : Local
  pub found : local_of n.name.0 env.scope ≡ Some is
  pub typed : is.ty ≡ ty
  pub depth : is.depth ≡ env.depth

abbrev pub code_types : Parts → List Ty → List CodeTy
code_types p ts = map (code_type p) ts

abbrev pub all_are : Ty → List Ty → Type 0
all_are x [] = Unit {0}
all_are x (t ∷ ts) = (t ≡ x) × all_are x ts

-- ---- what steps start from

-- a value of this type is a reference to what is seen so
abbrev pub refers : Ty → View → Type 0
refers t (shared x) = t ≡ ref x
refers t (frozen x) = t ≡ imm x
refers t v = ⊥

-- a local of this type is seen so
abbrev pub starts_from : Ty → View → Type 0
starts_from t (direct x) = (t ≡ x) × (is_owner x ≡ true)
starts_from t (shared x) = ((t ≡ x) × (is_owner x ≡ true)) ⊎ (t ≡ ref x)
starts_from t (frozen x) = t ≡ imm x
starts_from t blind = ⊥

-- a place that is lent is seen so
abbrev pub lent_from : Ty → View → Type 0
lent_from t (direct x) = (t ≡ x) × (is_owner x ≡ true)
lent_from t (shared x) = (t ≡ x) × (is_owner x ≡ true)
lent_from t v = ⊥

module _ (p : Parts) (c : Code) where
  -- what is seen so has a field of this name and of this type
  pub record HasField (view : View) (name : ℕ) (t : Ty) : Type 0 where
    pub struct : ℕ
    pub object : seen_object view ≡ Some (kind struct)
    pub place : ℕ
    pub found : field_place p view name ≡ Some place
    pub cell : field_of c place (kind_of p (kind struct)) ≡ Some (code_type p t)

  -- it is an array with elements of this type
  pub record HasItems (view : View) (t : Ty) : Type 0 where
    pub object : seen_object view ≡ Some (array t)
    pub cell : item_of c (kind_of p (array t)) ≡ Some (code_type p t)

-- a field or an element of this type is read: an isolate only as `&imm`
abbrev pub is_read : View → Ty → Seen → Type 0
is_read v t x = (x ≡ part_seen v t) × ((is_frozen v || not (is_iso t)) ≡ true)

-- ---- calls

module _ (p : Parts) (c : Code) (functions : List Function) where
  abbrev pub measured : Ty → Type 0
  measured t = (t ≡ str) ⊎ ((v : View) × (x : Ty) × refers t v × HasItems p c v x)

  -- a built-in function of values
  abbrev pub built_in_suits : BuiltIn → List Ty → Ty → Type 0
  built_in_suits b.Print (t ∷ []) x = (is_copy t ≡ true) × (x ≡ void)
  built_in_suits b.Println (t ∷ []) x = (is_copy t ≡ true) × (x ≡ void)
  built_in_suits b.Drop (t ∷ []) x = (is_owned t ≡ true) × (x ≡ void)
  built_in_suits b.Len (t ∷ []) x = (x ≡ int) × measured t
  built_in_suits b.Push (t ∷ u ∷ []) x = (x ≡ void) × (t ≡ ref (array u)) × HasItems p c (shared (array u)) u
  built_in_suits b.Pop (t ∷ []) x = (t ≡ ref (array x)) × HasItems p c (shared (array x)) x
  built_in_suits b.Text (t ∷ []) x = (t ≡ int) × (x ≡ str)
  built_in_suits b.Slice (t ∷ u ∷ w ∷ []) x = (t ≡ str) × (u ≡ int) × (w ≡ int) × (x ≡ str)
  built_in_suits b.Byte (t ∷ u ∷ []) x = (t ≡ str) × (u ≡ int) × (x ≡ int)
  built_in_suits b.IsNumber (t ∷ []) x = (t ≡ str) × (x ≡ bool)
  built_in_suits b.Number (t ∷ []) x = (t ≡ str) × (x ≡ int)
  built_in_suits f ts x = ⊥

  -- a plain function of the code takes such values, and gives such a one
  pub record IsCalled (n : NameAt) (ts : List Ty) (x : Ty) : Type 0 where
    pub func : Func
    pub here : slice_get c.funcs (number_of_function (has_name n.name.0) functions) ≡ Some func
    pub plain : func.form ≡ 0
    pub takes : func.params ≡ code_types p ts
    pub gives : func.result ≡ code_type p x

  -- a struct of the code has fields of these types
  abbrev pub is_made : ℕ → List Ty → Type 0
  is_made n ts = fields_of (code.kind_of c (kind_of p (kind n))) ≡ Some (code_types p ts)

  abbrev pub callee_suits : NameAt → Callee → List Ty → Ty → Type 0
  callee_suits n (built_in f) ts x = built_in_suits f ts x
  callee_suits n constructor ts x = (x ≡ kind n.name.0) × is_made n.name.0 ts
  callee_suits n (function false) ts x = IsCalled n ts x
  callee_suits n (function true) ts x = ⊥

  -- an owner of a struct is taken apart into these
  abbrev pub is_opened : Ty → List Ty → Type 0
  is_opened t ts = (n : ℕ) × (t ≡ kind n) × is_made n ts

  -- ---- parts

  abbrev mutual
    pub expr_suits : Env → Expr → Type 0
    expr_suits env (expr s node) = node_suits env s.value node

    pub node_suits : Env → Ty → Node → Type 0
    node_suits env x (number at n) = x ≡ int
    node_suits env x (quote at text) = (x ≡ str) × (slice_get c.texts (number_of_text text c.texts) ≡ Some text)
    node_suits env x (truth at b) = x ≡ bool
    node_suits env x (name n is_outer moved) = IsLocal env n x
    node_suits env x (paren at e) = (x ≡ type e) × expr_suits env e
    node_suits env x (chain e ls) = expr_suits env e × links_suit env (type e) x ls
    node_suits env x (unary at unary_op.Minus e) = (type e ≡ int) × (x ≡ int) × expr_suits env e
    node_suits env x (unary at unary_op.Not e) = (type e ≡ bool) × (x ≡ bool) × expr_suits env e
    node_suits env x (unary at unary_op.Borrow e) = lent_suits env x e
    node_suits env x (unary at unary_op.Merge e) = ⊥
    node_suits env x (set at p e) = place_suits env (type e) p × (x ≡ type e) × expr_suits env e
    node_suits env x (call n f es) = callee_suits n f (types es) x × exprs_suit env es
    node_suits env x (form f) = form_suits env x f
    node_suits env x (steps e no_steps) = ⊥
    node_suits env x (steps e (more_steps y ys)) = start_suits env (step_view y) e × step_suits env y × steps_suit env (lent (step_seen y)) ys × (x ≡ lent_last (lent (step_seen y)) ys)
    node_suits env x (tree.array at y es) = (x ≡ array y) × all_are y (types es) × HasItems p c (direct (array y)) y × exprs_suit env es
    node_suits env x (iso at b) = ⊥

    -- a place that is lent
    pub lent_suits : Env → Ty → Expr → Type 0
    lent_suits env x (expr y (name n is_outer false)) = (z : Ty) × IsLocal env n z × lent_from z y.view × (x ≡ ref z)
    lent_suits env x (expr y (steps e ss)) = node_suits env x (steps e ss)
    lent_suits env x (expr y node) = ⊥

    -- what a first step starts from, as it sees that
    pub start_suits : Env → View → Expr → Type 0
    start_suits env v (expr y (name n is_outer false)) = (z : Ty) × IsLocal env n z × starts_from z v
    start_suits env v (expr y node) = refers y.value v × node_suits env y.value node

    pub step_suits : Env → Step → Type 0
    step_suits env (field x view may_be_set at m) = (t : Ty) × HasField p c view m.0 t × is_read view t x
    step_suits env (index x view at e) = (t : Ty) × HasItems p c view t × is_read view t x × (type e ≡ int) × expr_suits env e
    step_suits env (method x view at m es) = ⊥

    -- from a reference of the type t
    pub steps_suit : Env → Ty → Steps → Type 0
    steps_suit env t no_steps = Unit {0}
    steps_suit env t (more_steps x xs) = refers t (step_view x) × step_suits env x × steps_suit env (lent (step_seen x)) xs

    -- the place of a `set`, for a value of the type t
    pub place_suits : Env → Ty → Expr → Type 0
    place_suits env t (expr y (name n is_outer moved)) = IsLocal env n t
    place_suits env t (expr y (steps e no_steps)) = ⊥
    place_suits env t (expr y (steps e (more_steps x no_steps))) = start_suits env (step_view x) e × set_suits env t x
    place_suits env t (expr y (steps e (more_steps x xs))) = start_suits env (step_view x) e × step_suits env x × targets_suit env t (lent (step_seen x)) xs
    place_suits env t (expr y node) = ⊥

    -- its steps, from a reference of the type u
    pub targets_suit : Env → Ty → Ty → Steps → Type 0
    targets_suit env t u no_steps = ⊥
    targets_suit env t u (more_steps x no_steps) = refers u (step_view x) × set_suits env t x
    targets_suit env t u (more_steps x xs) = refers u (step_view x) × step_suits env x × targets_suit env t (lent (step_seen x)) xs

    -- its last step
    pub set_suits : Env → Ty → Step → Type 0
    set_suits env t (field x view may_be_set at m) = (is_frozen view ≡ false) × HasField p c view m.0 t
    set_suits env t (index x view at e) = (is_frozen view ≡ false) × HasItems p c view t × (type e ≡ int) × expr_suits env e
    set_suits env t (method x view at m es) = ⊥

    pub exprs_suit : Env → Exprs → Type 0
    exprs_suit env no_exprs = Unit {0}
    exprs_suit env (more_exprs e es) = expr_suits env e × exprs_suit env es

    -- after an operand of the type t
    pub links_suit : Env → Ty → Ty → Links → Type 0
    links_suit env t x no_links = x ≡ t
    links_suit env t x (more_links (link s at op e) ls) = (takes_operands op t (type e) ≡ true) × (s.value ≡ link_gives op t) × expr_suits env e × links_suit env s.value x ls

    pub form_suits : Env → Ty → Form → Type 0
    form_suits env x (branch at c b es) = (type c ≡ bool) × expr_suits env c × block_suits env x b × elses_suit env x es
    form_suits env x (pure at b) = ⊥
    form_suits env x (parallel_range at n a e b) = ⊥
    form_suits env x (parallel_each at n e b) = ⊥

    pub elses_suit : Env → Ty → Elses → Type 0
    elses_suit env x no_else = x ≡ void
    elses_suit env x (otherwise b) = block_suits env x b
    elses_suit env x (more_elses (else_if at c b) es) = (type c ≡ bool) × expr_suits env c × block_suits env x b × elses_suit env x es

    pub block_suits : Env → Ty → Block → Type 0
    block_suits env x (block at end y ss) = (y ≡ x) × stmts_suit env x ss

    pub stmts_suit : Env → Ty → Stmts → Type 0
    stmts_suit env x no_stmts = x ≡ void
    stmts_suit env x (last e) = (type e ≡ x) × expr_suits env e
    stmts_suit env x (more_stmts s ss) = stmt_suits env s × stmts_suit (after s env) x ss

    pub stmt_suits : Env → Stmt → Type 0
    stmt_suits env (declare n x e) = (x ≡ type e) × expr_suits env e
    stmt_suits env (destructure at ns xs e) = is_opened (type e) xs × expr_suits env e
    stmt_suits env (return_nothing at) = env.gives ≡ void
    stmt_suits env (return_value at e) = (type e ≡ env.gives) × expr_suits env e
    stmt_suits env (while at c b) = (type c ≡ bool) × expr_suits env c × block_suits env void b
    stmt_suits env (foreach at n a e b) = (type a ≡ int) × (type e ≡ int) × expr_suits env a × expr_suits env e × block_suits (with_local n int env) void b
    stmt_suits env (form_stmt f) = form_suits env void f
    stmt_suits env (express e) = expr_suits env e
