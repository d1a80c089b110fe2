-- Which programs are declared: those no node of which breaks a rule of declarations. Each node stands here over its parts,
-- in post-order.
use Rattle.std.specs.Prelude.{ℕ, ◌+◌, List, [], ◌++◌, map, length, Option, Some, None}
use Rattle.vale_base.specs.declared.spot.Spot.{Spot}
use Rattle.vale_syntax.specs.declared.tree.NameAt.{NameAt}
use Rattle.vale_syntax.specs.Tree.{TypeExpr, int_type, bool_type, str_type, named_type, array_type, ref_type, imm_ref_type, iso_type, Expr, set, chain, unary, steps, number, quote, truth, name, call, paren, array, iso, form, Exprs, no_exprs, more_exprs, Link, link, Links, no_links, more_links, Step, field, method, index, Steps, no_steps, more_steps, Form, branch, pure, parallel_range, parallel_each, ElseIf, else_if, Elses, no_else, otherwise, more_elses, Block, block, Stmt, declare, destructure, return_nothing, return_value, while, foreach, form_stmt, express, Stmts, no_stmts, last, more_stmts, Param, param, Head, head, Function, function, FieldDecl, field_decl, Item, struct_item, interface_item, impl_item, function_item, Tree, tree}
use Rattle.vale_syntax.specs.declared.decls.Decls.{Decls}
use Rattle.vale_syntax.specs.declared.fault.Fault.{Fault}
use Rattle.vale_syntax.specs.declared.position.Position.{Position}
use Rattle.vale_syntax.specs.declared.position.Position.TheVariants.{Value, Field, Element}
use Rattle.vale_rules_spec.specs.Judged.{own, one_by_one, Judged, unless}
use Rattle.vale_rules_spec.specs.Declarations.{head_name, function_head, declarations}
use Rattle.vale_rules_spec.specs.DeclRules.{named_rules, array_rules, ref_rules, imm_ref_rules, iso_rules, field_rules, param_rules, head_rules, method_head_rules, method_rules, kind_rules, interface_name_rules, struct_name_rules, impl_rules, function_rules, program_rules}

-- ---- what a body is asked for: the faults of the types in it, and how many names it declares

pub record Body : Type 0 where
  pub faults : List Fault
  pub declared : ℕ

abbrev pub nothing : Body
nothing = record { faults = []; declared = 0 }

abbrev pub names_here : ℕ → Body
names_here n = record { faults = []; declared = n }

abbrev pub type_here : List Fault → Body
type_here fs = record { faults = fs; declared = 0 }

-- one part, and then another
infixr 12 ◌▸◌
abbrev pub ◌▸◌ : Body → Body → Body
a ▸ b = record { faults = a.faults ++ b.faults; declared = a.declared + b.declared }

module _ (items : List Item) where
  abbrev pub type_faults : Position → TypeExpr → List Fault
  type_faults position (int_type at) = []
  type_faults position (bool_type at) = []
  type_faults position (str_type at) = []
  type_faults position (named_type n) = own n.at (named_rules items n)
  type_faults position (array_type at x) = type_faults Element x ++ own at (array_rules position x)
  type_faults position (ref_type at x) = type_faults Value x ++ own at (ref_rules x)
  type_faults position (imm_ref_type at x) = type_faults Value x ++ own at (imm_ref_rules position x)
  type_faults position (iso_type at x) = type_faults Value x ++ own at (iso_rules items position x)

  -- ---- bodies

  abbrev mutual
    pub in_expr : Expr → Body
    in_expr (set at p e) = in_expr p ▸ in_expr e
    in_expr (chain e ls) = in_expr e ▸ in_links ls
    in_expr (unary at op e) = in_expr e
    in_expr (steps e ss) = in_expr e ▸ in_steps ss
    in_expr (number at n) = nothing
    in_expr (quote at text) = nothing
    in_expr (truth at b) = nothing
    in_expr (name n) = nothing
    in_expr (call n es) = in_exprs es
    in_expr (paren at e) = in_expr e
    in_expr (array at x es) = type_here (type_faults Element x) ▸ in_exprs es
    in_expr (iso at b) = in_block b
    in_expr (form f) = in_form f

    pub in_exprs : Exprs → Body
    in_exprs no_exprs = nothing
    in_exprs (more_exprs e es) = in_expr e ▸ in_exprs es

    pub in_link : Link → Body
    in_link (link at op e) = in_expr e

    pub in_links : Links → Body
    in_links no_links = nothing
    in_links (more_links l ls) = in_link l ▸ in_links ls

    pub in_step : Step → Body
    in_step (field at n) = nothing
    in_step (method at n es) = in_exprs es
    in_step (index at e) = in_expr e

    pub in_steps : Steps → Body
    in_steps no_steps = nothing
    in_steps (more_steps s ss) = in_step s ▸ in_steps ss

    pub in_form : Form → Body
    in_form (branch at c b es) = in_expr c ▸ in_block b ▸ in_elses es
    in_form (pure at b) = in_block b
    in_form (parallel_range at n a e b) = names_here 1 ▸ in_expr a ▸ in_expr e ▸ in_block b
    in_form (parallel_each at n e b) = names_here 1 ▸ in_expr e ▸ in_block b

    pub in_else_if : ElseIf → Body
    in_else_if (else_if at c b) = in_expr c ▸ in_block b

    pub in_elses : Elses → Body
    in_elses no_else = nothing
    in_elses (otherwise b) = in_block b
    in_elses (more_elses e es) = in_else_if e ▸ in_elses es

    pub in_block : Block → Body
    in_block (block at end ss) = in_stmts ss

    pub in_stmts : Stmts → Body
    in_stmts no_stmts = nothing
    in_stmts (last e) = in_expr e
    in_stmts (more_stmts s ss) = in_stmt s ▸ in_stmts ss

    pub in_stmt : Stmt → Body
    in_stmt (declare n e) = names_here 1 ▸ in_expr e
    in_stmt (destructure at ns e) = names_here (length ns) ▸ in_expr e
    in_stmt (return_nothing at) = nothing
    in_stmt (return_value at e) = in_expr e
    in_stmt (while at c b) = in_expr c ▸ in_block b
    in_stmt (foreach at n a e b) = names_here 1 ▸ in_expr a ▸ in_expr e ▸ in_block b
    in_stmt (form_stmt f) = in_form f
    in_stmt (express e) = in_expr e

  -- ---- parts of items, each with the earlier ones of its list

  abbrev pub field_faults : List FieldDecl → FieldDecl → List Fault
  field_faults before (field_decl n may_be_set x) = type_faults Field x ++ own n.at (field_rules before (field_decl n may_be_set x))

  abbrev pub param_faults : List Param → Param → List Fault
  param_faults before (param n x) = type_faults Value x ++ own n.at (param_rules before (param n x))

  abbrev pub result_faults : Option TypeExpr → List Fault
  result_faults None = []
  result_faults (Some x) = type_faults Value x

  -- what a head has in it
  abbrev pub inside_head : Head → List Fault
  inside_head (head is_pure n ps x) = one_by_one param_faults [] ps ++ result_faults x

  -- a method of the interface
  abbrev pub head_faults : NameAt → List Head → Head → List Fault
  head_faults i before h = inside_head h ++ own (head_name h).at (head_rules i before h)

  -- a method of an implementation: its head, its body, and it
  abbrev pub method_faults : List Function → Function → List Fault
  method_faults before (function h b) =
      inside_head h ++ own (head_name h).at (method_head_rules (map function_head before) h)
      ++ (in_block b).faults
      ++ own (head_name h).at (method_rules h (in_block b).declared)

-- ---- items, each with the earlier ones

module _ (names : List (List ℕ)) (items : List Item) where
  abbrev pub item_faults : List Item → Item → List Fault
  item_faults before (struct_item n fs) = one_by_one (field_faults items) [] fs ++ own n.at (kind_rules names before n)
  item_faults before (interface_item n hs) = one_by_one (head_faults items n) [] hs ++ own n.at (kind_rules names before n)
  item_faults before (impl_item at i s fs) =
      own i.at (interface_name_rules items i) ++ own s.at (struct_name_rules items s)
      ++ one_by_one (method_faults items) [] fs
      ++ own at (impl_rules items before i s (map function_head fs))
  item_faults before (function_item (function h b)) =
      inside_head items h ++ (in_block items b).faults
      ++ own (head_name h).at (function_rules names items before h (in_block items b).declared)

-- the spot of the program's node
abbrev pub program_spot : Spot
program_spot = record { line = 1; col = 1 }

-- all faults of a program, in post-order
abbrev pub declaration_faults : Tree → List Fault
declaration_faults (tree names items) = one_by_one (item_faults names items) [] items ++ own program_spot (program_rules names items)

-- what the program declares, where no node breaks a rule; else its faults
abbrev pub declared : Tree → Judged Decls
declared (tree names items) = unless (declaration_faults (tree names items)) (declarations items)
