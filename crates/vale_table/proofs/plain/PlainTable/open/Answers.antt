use Rattle.std.proofs.Common.{◌≡◌, ◌++◌, [], arith, ap, sym, ◌∙◌, append-nil, get_or, map, Some, is_none}
use Rattle.std.proofs.lemmas.List.{nil_from_length, get_or-replicate, length-map}
use Rattle.vale_page.specs.PageState.{IsBatch}
use Rattle.vale_table.proofs.PlainLemmas.{table_opened, all_home}
use Rattle.vale_table.proofs.plain.PlainTable.open.Given.{Over}
use Rattle.vale_table.proofs.plain.PlainTable.open.Goals as goal

-- the loop has gone over all pages
all_pages : (g : Over) (c : goal.In_ok-vec g) → IsBatch c.loop-page.yielded c.args.frames c.args.first
all_pages g c =
    let empty = c.in-None.ensures.steps.0 in
    let nothing : c.loop-page.page-iterator.rest.items ≡ [] = nil_from_length _ (omega (arith, empty)) in
    let all : c.loop-page.yielded ≡ c.in_ok-page-items.page-items.items =
    sym (append-nil c.loop-page.yielded) ∙ ap (λ l. c.loop-page.yielded ++ l) (sym nothing) ∙ c.loop-page.invariant.rest ∙ c.into_iter-page-iterator.ensures.into_iter_gives.0 in
    rw all c.in_ok-page-items.ensures

pub invariant_of-result : goal.invariant_of-result
invariant_of-result g c =
    let bases = c.in_ok-vec.ensures.items_if_clones_equal (λ y e. e) in
    rw c.loop-page.invariant.kept (table_opened _ _ c.args.frames c.args.first (all_pages g c) bases (omega arith) (omega arith))

pub returns : goal.returns
returns g c =
    let bases = c.in_ok-vec.ensures.items_if_clones_equal (λ y e. e) in
    record {
      many = rw c.loop-page.invariant.kept (length-map (map Some c.loop-page.yielded) is_none ∙ length-map c.loop-page.yielded Some ∙ (all_pages g c).many);
      home = λ k. rw c.loop-page.invariant.kept (all_home c.loop-page.yielded k);
      bases = λ k h. ap (λ l. get_or l k 0) bases ∙ get_or-replicate c.args.frames k c.args.first 0 h;
    }
