-- What the certificate of lowered code needs of a typed program: the types of its parts fit. It asks nothing of what isn't lowered.
use Rattle.std.specs.Prelude.{◌≡◌, true, false, List, [], ◌∷◌, Some, codes}
use Rattle.vale_text.specs.Operations.{is_int}
use Rattle.vale_syntax.specs.declared.built_in.BuiltIn.{BuiltIn}
use Rattle.vale_syntax.specs.declared.tree.NameAt.{NameAt}
use Rattle.vale_syntax.specs.declared.tree.UnaryOp.{UnaryOp}
use Rattle.vale_syntax.specs.declared.tree.UnaryOp.TheVariants as unary_op
use Rattle.vale_rules_spec.specs.Declarations.{head_params}
use Rattle.vale_rules_spec.specs.Types.{Ty, void, int, bool, str, is_void, Local, local_of}
use Rattle.vale_rules_spec.specs.Typed.{Callee, built_in, constructor, function, Expr, expr, Node, set, chain, unary, steps, number, quote, truth, name, call, paren, array, iso, form, Exprs, no_exprs, more_exprs, link, Links, no_links, more_links, Form, branch, pure, parallel_range, parallel_each, else_if, Elses, no_else, otherwise, more_elses, Block, block, Stmt, declare, destructure, return_nothing, return_value, while, foreach, form_stmt, express, Stmts, no_stmts, last, more_stmts, Function, Typed, type, types}
use Rattle.vale_rules_spec.specs.TypeRules.{takes_operands, link_gives, takes_arguments, built_in_gives, param_types}
use Rattle.vale_rules_spec.specs.Typing.{Env, with_local, after, entry}
use Rattle.vale_model.specs.Kinds.{head_of, body_of}
use Rattle.vale_model.specs.Parts.{Parts, parts_of, first_function, has_name, has_text}
use Rattle.vale_lowering.specs.Lowered.{functions_in}
use Rattle.vale_lowering.specs.Scopes.{result_type}
use Rattle.vale_lowering.specs.Texts.{is_lawful_text}
use Rattle.vale_rules_spec.specs.Returns.{block_returns}

-- a name is that of a local of this type
pub record IsLocal (env : Env) (n : NameAt) (ty : Ty) : Type 0 where
  pub is : Local
  pub found : local_of n.name.0 env.scope ≡ Some is
  pub typed : is.ty ≡ ty

-- a function of this name takes such values and gives such a one
pub record IsCalled (functions : List Function) (n : NameAt) (takes : List Ty) (gives : Ty) : Type 0 where
  pub is : Function
  pub found : first_function (has_name n.name.0) functions ≡ Some is
  pub taken : takes ≡ param_types (head_params (head_of is))
  pub given : gives ≡ result_type is

-- of a built-in function
pub record IsBuiltIn (f : BuiltIn) (takes : List Ty) (gives : Ty) : Type 0 where
  pub taken : takes_arguments [] f takes ≡ true
  pub given : gives ≡ built_in_gives f takes

abbrev pub unary_is_well_typed : UnaryOp → Ty → Ty → Type 0
unary_is_well_typed unary_op.Minus ty x = (ty ≡ int) × (x ≡ int)
unary_is_well_typed unary_op.Not ty x = (ty ≡ bool) × (x ≡ bool)
unary_is_well_typed unary_op.Borrow ty x = Unit {0}
unary_is_well_typed unary_op.Merge ty x = Unit {0}

-- among these functions, with the locals that a part sees, whose value has the type x
module _ (functions : List Function) where
  abbrev pub callee_is_well_typed : NameAt → Callee → List Ty → Ty → Type 0
  callee_is_well_typed n (built_in f) tys x = IsBuiltIn f tys x
  callee_is_well_typed n constructor tys x = Unit {0}
  callee_is_well_typed n (function is_pure) tys x = IsCalled functions n tys x

  -- the place of a set, for a value of this type
  abbrev pub set_is_well_typed : Env → Expr → Ty → Ty → Type 0
  set_is_well_typed env (expr y (name n is_outer moved)) ty x = IsLocal env n ty × (x ≡ ty)
  set_is_well_typed env (expr y _) ty x = Unit {0}

  abbrev mutual
    pub expr_is_well_typed : Env → Expr → Type 0
    expr_is_well_typed env (expr s node) = node_is_well_typed env s.value node

    pub node_is_well_typed : Env → Ty → Node → Type 0
    node_is_well_typed env x (number at n) = (x ≡ int) × (is_int n ≡ true)
    node_is_well_typed env x (quote at text) = (x ≡ str) × (is_lawful_text text ≡ true)
    node_is_well_typed env x (truth at b) = x ≡ bool
    node_is_well_typed env x (name n is_outer moved) = IsLocal env n x
    node_is_well_typed env x (paren at e) = (x ≡ type e) × expr_is_well_typed env e
    node_is_well_typed env x (chain e ls) = expr_is_well_typed env e × links_are_well_typed env (type e) x ls
    node_is_well_typed env x (unary at op e) = unary_is_well_typed op (type e) x × expr_is_well_typed env e
    node_is_well_typed env x (set at p e) = set_is_well_typed env p (type e) x × expr_is_well_typed env e
    node_is_well_typed env x (call n f es) = callee_is_well_typed n f (types es) x × exprs_are_well_typed env es
    node_is_well_typed env x (form f) = form_is_well_typed env x f
    node_is_well_typed env x (steps e ss) = Unit {0}
    node_is_well_typed env x (array at y es) = Unit {0}
    node_is_well_typed env x (iso at b) = Unit {0}

    pub exprs_are_well_typed : Env → Exprs → Type 0
    exprs_are_well_typed env no_exprs = Unit {0}
    exprs_are_well_typed env (more_exprs e es) = expr_is_well_typed env e × exprs_are_well_typed env es

    -- after an operand of the type ty; an operand that no operator follows is a value
    pub links_are_well_typed : Env → Ty → Ty → Links → Type 0
    links_are_well_typed env ty x no_links = (x ≡ ty) × (is_void ty ≡ false)
    links_are_well_typed env ty x (more_links (link s at op e) ls) =
        (takes_operands op ty (type e) ≡ true) × (s.value ≡ link_gives op ty) × expr_is_well_typed env e × links_are_well_typed env s.value x ls

    pub form_is_well_typed : Env → Ty → Form → Type 0
    form_is_well_typed env x (branch at c b es) = (type c ≡ bool) × expr_is_well_typed env c × block_is_well_typed env x b × elses_are_well_typed env x es
    form_is_well_typed env x (pure at b) = Unit {0}
    form_is_well_typed env x (parallel_range at n a e b) = Unit {0}
    form_is_well_typed env x (parallel_each at n e b) = Unit {0}

    pub elses_are_well_typed : Env → Ty → Elses → Type 0
    elses_are_well_typed env x no_else = x ≡ void
    elses_are_well_typed env x (otherwise b) = block_is_well_typed env x b
    elses_are_well_typed env x (more_elses (else_if at c b) es) = (type c ≡ bool) × expr_is_well_typed env c × block_is_well_typed env x b × elses_are_well_typed env x es

    pub block_is_well_typed : Env → Ty → Block → Type 0
    block_is_well_typed env x (block at end y ss) = (y ≡ x) × stmts_are_well_typed env x ss

    pub stmts_are_well_typed : Env → Ty → Stmts → Type 0
    stmts_are_well_typed env x no_stmts = x ≡ void
    stmts_are_well_typed env x (last e) = (type e ≡ x) × expr_is_well_typed env e
    stmts_are_well_typed env x (more_stmts s ss) = stmt_is_well_typed env s × stmts_are_well_typed (after s env) x ss

    pub stmt_is_well_typed : Env → Stmt → Type 0
    stmt_is_well_typed env (declare n x e) = (x ≡ type e) × (is_void x ≡ false) × expr_is_well_typed env e
    stmt_is_well_typed env (destructure at ns xs e) = Unit {0}
    stmt_is_well_typed env (return_nothing at) = env.gives ≡ void
    stmt_is_well_typed env (return_value at e) = (type e ≡ env.gives) × (is_void env.gives ≡ false) × expr_is_well_typed env e
    stmt_is_well_typed env (while at c b) = (type c ≡ bool) × expr_is_well_typed env c × block_is_well_typed env void b
    stmt_is_well_typed env (foreach at n a e b) =
        (type a ≡ int) × (type e ≡ int) × expr_is_well_typed env a × expr_is_well_typed env e × block_is_well_typed (with_local n int env) void b
    stmt_is_well_typed env (form_stmt f) = form_is_well_typed env void f
    stmt_is_well_typed env (express e) = expr_is_well_typed env e

-- a function with a result returns on every way
abbrev pub always_returns : Function → Type 0
always_returns f = is_void (result_type f) ≡ false → block_returns (body_of f) ≡ true

abbrev pub function_is_well_typed : List Function → Function → Type 0
function_is_well_typed functions f = block_is_well_typed functions (entry (head_of f)) void (body_of f) × always_returns f

abbrev pub all_are_well_typed : List Function → List Function → Type 0
all_are_well_typed functions [] = Unit {0}
all_are_well_typed functions (f ∷ fs) = function_is_well_typed functions f × all_are_well_typed functions fs

-- `main` is there, takes nothing and gives nothing
pub record HasMain (p : Parts) : Type 0 where
  pub is : Function
  pub found : first_function (has_text p (codes "main")) (functions_in p) ≡ Some is
  pub takes_nothing : head_params (head_of is) ≡ []
  pub gives_nothing : result_type is ≡ void

pub record PartsSuit (p : Parts) : Type 0 where
  pub functions : all_are_well_typed (functions_in p) (functions_in p)
  pub main : HasMain p

-- the types of a program's parts fit
abbrev pub WellTyped : Typed → Type 0
WellTyped program = PartsSuit (parts_of program)
