-- Whether a part has interfaces, by its own parts.
use Rattle.std.proofs.Common.{◌≡◌, List, [], ◌∷◌, refl, ap, ◌∙◌, sym}
use Rattle.std.specs.List.{list_all}
use Rattle.std.specs.Prelude.{Bool, true, false, ◌||◌, Option, None, map, option_map}
use Rattle.vale_base.specs.declared.spot.Spot.{Spot}
use Rattle.vale_syntax.specs.declared.tree.Expr.{Expr}
use Rattle.vale_syntax.specs.declared.tree.Block.{Block, out-Block}
use Rattle.vale_syntax.specs.declared.tree.ElseIf.{ElseIf, out-ElseIf}
use Rattle.vale_syntax.specs.declared.tree.Link.{Link, out-Link}
use Rattle.vale_syntax.specs.declared.tree.Form.{Form}
use Rattle.vale_syntax.specs.declared.tree.Form.TheVariants as f
use Rattle.vale_syntax.specs.Tree as t
use Rattle.vale_syntax.specs.View.{listed, view_expr, view_form, view_stmt, view_block, view_else_if, view_link, elses_of, else_end, stmts_of, last_end}
use Rattle.vale_syntax.proofs.PartLaws.{of_out_block, of_out_else_if, of_out_link}
use Rattle.vale_syntax.proofs.ViewLaws as v
use Rattle.vale_front.specs.Interfaces.{in_expr, in_link, in_form, in_else_if, in_elses, in_block, in_stmts, in_stmt, in_item, in_items}
use Rattle.vale_types.specs.Plain.{is_plain}

or_or : (a b c : Bool) → ((a || b) || c) ≡ (a || (b || c))
or_or true b c = refl
or_or false b c = refl

or_false : (a : Bool) → (a || false) ≡ a
or_false true = refl
or_false false = refl

pub in_turn : (a b c : Bool) → ((a || b) || c) ≡ (a || (b || c))
in_turn = or_or

pub nothing_first : (a : Bool) → (false || a) ≡ a
nothing_first a = refl

pub nothing_last : (a : Bool) → (a || false) ≡ a
nothing_last = or_false

pub link_by_parts : (l : Link) → in_link (view_link l) ≡ in_expr (view_expr (out-Link l).operand)
link_by_parts l = ap in_link (of_out_link l)

pub else_if_by_parts : (e : ElseIf) → in_else_if (view_else_if e) ≡ (in_expr (view_expr (out-ElseIf e).condition) || in_block (view_block (out-ElseIf e).block))
else_if_by_parts e = ap in_else_if (of_out_else_if e)

stmts_by_parts : (ss : List t.Stmt) (end : t.Stmts) → in_stmts (listed t.more_stmts ss end) ≡ (in_stmts (listed t.more_stmts ss t.no_stmts) || in_stmts end)
stmts_by_parts [] end = refl
stmts_by_parts (s ∷ ss) end = ap (λ b. in_stmt s || b) (stmts_by_parts ss end) ∙ sym (in_turn (in_stmt s) (in_stmts (listed t.more_stmts ss t.no_stmts)) (in_stmts end))

pub block_by_parts : (b : Block) → in_block (view_block b) ≡ (in_stmts (stmts_of (map view_stmt (out-Block b).stmts) None) || in_stmts (last_end (option_map view_expr (out-Block b).last)))
block_by_parts b = ap in_block (of_out_block b) ∙ stmts_by_parts (map view_stmt (out-Block b).stmts) (last_end (option_map view_expr (out-Block b).last))

elses_by_parts : (es : List t.ElseIf) (end : t.Elses) → in_elses (listed t.more_elses es end) ≡ (in_elses (listed t.more_elses es t.no_else) || in_elses end)
elses_by_parts [] end = refl
elses_by_parts (e ∷ es) end = ap (λ b. in_else_if e || b) (elses_by_parts es end) ∙ sym (in_turn (in_else_if e) (in_elses (listed t.more_elses es t.no_else)) (in_elses end))

pub if_by_parts : (at : Spot) (c : Expr) (b : Block) (es : List ElseIf) (o : Option Block) → in_form (view_form (f.If at c b es o)) ≡ (in_expr (view_expr c) || (in_block (view_block b) || (in_elses (elses_of (map view_else_if es) None) || in_elses (else_end (option_map view_block o)))))
if_by_parts at c b es o = ap in_form (v.of_if at c b es o) ∙ ap (λ x. in_expr (view_expr c) || (in_block (view_block b) || x)) (elses_by_parts (map view_else_if es) (else_end (option_map view_block o)))

pub by_if : (z : Form) (at : Spot) (c : Expr) (b : Block) (es : List ElseIf) (o : Option Block) (first body each other : Bool) → z ≡ f.If at c b es o
    → first ≡ in_expr (view_expr c) → body ≡ in_block (view_block b) → each ≡ in_elses (elses_of (map view_else_if es) None)
    → other ≡ in_elses (else_end (option_map view_block o)) → (first || (body || (each || other))) ≡ in_form (view_form z)
by_if z at c b es o first body each other is e1 e2 e3 e4 =
    ap (λ x. x || (body || (each || other))) e1
    ∙ ap (λ x. in_expr (view_expr c) || (x || (each || other))) e2
    ∙ ap (λ x. in_expr (view_expr c) || (in_block (view_block b) || (x || other))) e3
    ∙ ap (λ x. in_expr (view_expr c) || (in_block (view_block b) || (in_elses (elses_of (map view_else_if es) None) || x))) e4
    ∙ sym (if_by_parts at c b es o)
    ∙ ap (λ x. in_form (view_form x)) (sym is)

-- ---- what the phases judge

either_false : (a b : Bool) → (a || b) ≡ false → b ≡ false
either_false true b h = absurd cc
either_false false b h = h

-- without interfaces there are structs and functions alone
pub plain_without : (items : List t.Item) → in_items items ≡ false → list_all is_plain items ≡ true
plain_without [] h = refl
plain_without (t.struct_item n fs ∷ xs) h = plain_without xs h
plain_without (t.interface_item n hs ∷ xs) h = absurd cc
plain_without (t.impl_item at i s fs ∷ xs) h = absurd cc
plain_without (t.function_item (t.function d b) ∷ xs) h = plain_without xs (either_false (in_block b) (in_items xs) h)
