-- The typed tree: a program's tree in which each expression has what is known of it, each name says whether it is moved,
-- each step how its base is seen, and each call what is called.
use Rattle.std.specs.Prelude.{ℕ, ℤ, Bool, true, false, List, [], ◌∷◌}
use Rattle.vale_base.specs.declared.name.Name.{Name}
use Rattle.vale_base.specs.declared.spot.Spot.{Spot}
use Rattle.vale_syntax.specs.declared.built_in.BuiltIn.{BuiltIn}
use Rattle.vale_syntax.specs.declared.tree.NameAt.{NameAt}
use Rattle.vale_syntax.specs.declared.tree.BinaryOp.{BinaryOp}
use Rattle.vale_syntax.specs.declared.tree.UnaryOp.{UnaryOp}
use Rattle.vale_syntax.specs.Tree.{Head, FieldDecl}
use Rattle.vale_rules_spec.specs.Types.{Ty, View, Seen}

-- what is called
pub data Callee : Type 0 where
  built_in : BuiltIn → Callee
  constructor : Callee
  -- with whether it is pure
  function : Bool → Callee

mutual
  pub data Expr : Type 0 where
    expr : Seen → Node → Expr

  pub data Node : Type 0 where
    set : Spot → Expr → Expr → Node
    chain : Expr → Links → Node
    unary : Spot → UnaryOp → Expr → Node
    steps : Expr → Steps → Node
    number : Spot → ℤ → Node
    quote : Spot → List ℕ → Node
    truth : Spot → Bool → Node
    -- with whether it was declared outside of the innermost `pure`, `iso` or parallel block, and whether it is moved
    name : NameAt → Bool → Bool → Node
    call : NameAt → Callee → Exprs → Node
    paren : Spot → Expr → Node
    array : Spot → Ty → Exprs → Node
    iso : Spot → Block → Node
    form : Form → Node

  pub data Exprs : Type 0 where
    no_exprs : Exprs
    more_exprs : Expr → Exprs → Exprs

  -- with what is known of the operator's value
  pub data Link : Type 0 where
    link : Seen → Spot → BinaryOp → Expr → Link

  pub data Links : Type 0 where
    no_links : Links
    more_links : Link → Links → Links

  -- with what is known of the step's value, and how the step sees its base; a field with whether it may be set
  pub data Step : Type 0 where
    field : Seen → View → Bool → Spot → Name → Step
    method : Seen → View → Spot → Name → Exprs → Step
    index : Seen → View → Spot → Expr → Step

  pub data Steps : Type 0 where
    no_steps : Steps
    more_steps : Step → Steps → Steps

  pub data Form : Type 0 where
    branch : Spot → Expr → Block → Elses → Form
    pure : Spot → Block → Form
    parallel_range : Spot → NameAt → Expr → Expr → Block → Form
    parallel_each : Spot → NameAt → Expr → Block → Form

  pub data ElseIf : Type 0 where
    else_if : Spot → Expr → Block → ElseIf

  pub data Elses : Type 0 where
    no_else : Elses
    otherwise : Block → Elses
    more_elses : ElseIf → Elses → Elses

  -- with the type of its last expression; without one it is void
  pub data Block : Type 0 where
    block : Spot → Spot → Ty → Stmts → Block

  pub data Stmt : Type 0 where
    -- with the type of the name
    declare : NameAt → Ty → Expr → Stmt
    -- with the types of the names
    destructure : Spot → List NameAt → List Ty → Expr → Stmt
    return_nothing : Spot → Stmt
    return_value : Spot → Expr → Stmt
    while : Spot → Expr → Block → Stmt
    foreach : Spot → NameAt → Expr → Expr → Block → Stmt
    form_stmt : Form → Stmt
    express : Expr → Stmt

  pub data Stmts : Type 0 where
    no_stmts : Stmts
    last : Expr → Stmts
    more_stmts : Stmt → Stmts → Stmts

pub data Function : Type 0 where
  function_body : Head → Block → Function

pub data Item : Type 0 where
  struct_item : NameAt → List FieldDecl → Item
  interface_item : NameAt → List Head → Item
  impl_item : Spot → NameAt → NameAt → List Function → Item
  function_item : Function → Item

-- the texts of the names, by number, and the items
pub data Typed : Type 0 where
  typed : List (List ℕ) → List Item → Typed

-- ---- what is known of parts

abbrev pub seen : Expr → Seen
seen (expr s node) = s

abbrev pub type : Expr → Ty
type e = (seen e).value

abbrev pub link_seen : Link → Seen
link_seen (link s at op e) = s

-- what is known of the last operator's value, or of the first operand's
abbrev pub chain_seen : Seen → Links → Seen
chain_seen s no_links = s
chain_seen s (more_links l ls) = chain_seen (link_seen l) ls

abbrev pub step_seen : Step → Seen
step_seen (field s v may_be_set at n) = s
step_seen (method s v at n es) = s
step_seen (index s v at e) = s

abbrev pub steps_seen : Seen → Steps → Seen
steps_seen s no_steps = s
steps_seen s (more_steps x xs) = steps_seen (step_seen x) xs

-- what the place's last step is, where it has one, may be set
abbrev pub step_may_be_set : Step → Bool
step_may_be_set (field s v may_be_set at n) = may_be_set
step_may_be_set _ = true

abbrev pub last_may_be_set : Steps → Bool
last_may_be_set no_steps = true
last_may_be_set (more_steps s no_steps) = step_may_be_set s
last_may_be_set (more_steps s ss) = last_may_be_set ss

abbrev pub may_be_set : Expr → Bool
may_be_set (expr s (steps e ss)) = last_may_be_set ss
may_be_set _ = true

abbrev pub block_type : Block → Ty
block_type (block at end t ss) = t

abbrev pub stmts_type : Stmts → Ty
stmts_type no_stmts = Ty.void
stmts_type (last e) = type e
stmts_type (more_stmts s ss) = stmts_type ss

-- the types of an `if`'s further conditions and blocks
abbrev pub condition_types : Elses → List Ty
condition_types no_else = []
condition_types (otherwise b) = []
condition_types (more_elses (else_if at c b) es) = type c ∷ condition_types es

abbrev pub block_types : Elses → List Ty
block_types no_else = []
block_types (otherwise b) = block_type b ∷ []
block_types (more_elses (else_if at c b) es) = block_type b ∷ block_types es

abbrev pub has_else : Elses → Bool
has_else no_else = false
has_else (otherwise b) = true
has_else (more_elses e es) = has_else es

abbrev pub types : Exprs → List Ty
types no_exprs = []
types (more_exprs e es) = type e ∷ types es
