use Rattle.std.proofs.Common.{◌≡◌, ◌-◌, length, get_or, reverse, sym, subst, arith}
use Rattle.std.specs.Prelude.{slice_set}
use Rattle.vale_object_frames.specs.Stacks.{DropsNext, DropsOne, IsDropping}
use Rattle.vale_object_frames.proofs.StackLaws.{drops_next, some_frames}
use Rattle.vale_object_frames.proofs.stack.Stack.next_owned.Goals as goal

pub returns-in-Some-clause-some : goal.returns-in-Some-clause-some
returns-in-Some-clause-some c =
    let items = c.self.inside.frames.items in
    let d = c.index_mut.result.now in
    let x = c.next_in.new.frame in
    let next = c.in-Some.next in
    let some = some_frames items (subst IsDropping (sym c.self.view_is) c.requires) in
    let e : length items - 1 ≡ c.len-last.result - 1 = omega (arith, c.len-last.ensures, c.self.inside.frames.ok.0) in
    let one = subst (λ f. DropsOne next.0 next.1 f x) c.index_mut.ensures.value c.in-Some.ensures.some in
    let two = drops_next items some d x next.0 next.1 (subst (λ n. DropsOne next.0 next.1 (get_or items n d) x) (sym e) one) in
    let three = subst (λ n. DropsNext next.0 next.1 (reverse items) (reverse (slice_set items n x))) e two in
    subst (λ l. DropsNext next.0 next.1 l (reverse (slice_set items (c.len-last.result - 1) x))) c.self.view_is three
