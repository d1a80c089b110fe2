-- A program's tree without where it lies in memory: what every definition over programs goes by. It has one type for
-- each type of the code's tree, and lists of its own where a type leads back to itself.
use Rattle.std.specs.Prelude.{ℕ, ℤ, Bool, List, Option}
use Rattle.vale_base.specs.declared.name.Name.{Name}
use Rattle.vale_base.specs.declared.spot.Spot.{Spot}
use Rattle.vale_syntax.specs.declared.tree.NameAt.{NameAt}
use Rattle.vale_syntax.specs.declared.tree.BinaryOp.{BinaryOp}
use Rattle.vale_syntax.specs.declared.tree.UnaryOp.{UnaryOp}

-- a type as it is written
pub data TypeExpr : Type 0 where
  int_type : Spot → TypeExpr
  bool_type : Spot → TypeExpr
  str_type : Spot → TypeExpr
  named_type : NameAt → TypeExpr
  array_type : Spot → TypeExpr → TypeExpr
  ref_type : Spot → TypeExpr → TypeExpr
  imm_ref_type : Spot → TypeExpr → TypeExpr
  iso_type : Spot → TypeExpr → TypeExpr

mutual
  pub data Expr : Type 0 where
    -- the place and the value
    set : Spot → Expr → Expr → Expr
    -- operators of one rank
    chain : Expr → Links → Expr
    unary : Spot → UnaryOp → Expr → Expr
    steps : Expr → Steps → Expr
    number : Spot → ℤ → Expr
    quote : Spot → List ℕ → Expr
    truth : Spot → Bool → Expr
    name : NameAt → Expr
    call : NameAt → Exprs → Expr
    paren : Spot → Expr → Expr
    -- the type of the elements, and the elements
    array : Spot → TypeExpr → Exprs → Expr
    iso : Spot → Block → Expr
    form : Form → Expr

  pub data Exprs : Type 0 where
    no_exprs : Exprs
    more_exprs : Expr → Exprs → Exprs

  -- an operator, and the operand after it
  pub data Link : Type 0 where
    link : Spot → BinaryOp → Expr → Link

  pub data Links : Type 0 where
    no_links : Links
    more_links : Link → Links → Links

  pub data Step : Type 0 where
    field : Spot → Name → Step
    method : Spot → Name → Exprs → Step
    index : Spot → Expr → Step

  pub data Steps : Type 0 where
    no_steps : Steps
    more_steps : Step → Steps → Steps

  -- an `if` has its condition, its block and what comes after it
  pub data Form : Type 0 where
    branch : Spot → Expr → Block → Elses → Form
    pure : Spot → Block → Form
    parallel_range : Spot → NameAt → Expr → Expr → Block → Form
    parallel_each : Spot → NameAt → Expr → Block → Form

  -- with the spot of the `if` after `else`
  pub data ElseIf : Type 0 where
    else_if : Spot → Expr → Block → ElseIf

  pub data Elses : Type 0 where
    no_else : Elses
    otherwise : Block → Elses
    more_elses : ElseIf → Elses → Elses

  pub data Block : Type 0 where
    -- with the spots of its braces
    block : Spot → Spot → Stmts → Block

  pub data Stmt : Type 0 where
    declare : NameAt → Expr → Stmt
    destructure : Spot → List NameAt → Expr → Stmt
    return_nothing : Spot → Stmt
    return_value : Spot → Expr → Stmt
    while : Spot → Expr → Block → Stmt
    foreach : Spot → NameAt → Expr → Expr → Block → Stmt
    form_stmt : Form → Stmt
    express : Expr → Stmt

  -- the statements of a block, and its last expression where it has one
  pub data Stmts : Type 0 where
    no_stmts : Stmts
    last : Expr → Stmts
    more_stmts : Stmt → Stmts → Stmts

pub data Param : Type 0 where
  param : NameAt → TypeExpr → Param

-- whether it is pure, its name, its parameters and its result
pub data Head : Type 0 where
  head : Bool → NameAt → List Param → Option TypeExpr → Head

pub data Function : Type 0 where
  function : Head → Block → Function

-- with whether it may be set
pub data FieldDecl : Type 0 where
  field_decl : NameAt → Bool → TypeExpr → FieldDecl

pub data Item : Type 0 where
  struct_item : NameAt → List FieldDecl → Item
  interface_item : NameAt → List Head → Item
  -- the interface, the struct, and the methods
  impl_item : Spot → NameAt → NameAt → List Function → Item
  function_item : Function → Item

-- the texts of the names, by number, and the items
pub data Tree : Type 0 where
  tree : List (List ℕ) → List Item → Tree
