use Rattle.std.proofs.Common.{◌≡◌, ◌<◌, ◌≤◌, ℕ, length, slice_index, vec_capacity}
use Rattle.vale_heap.proofs.lists.alone.Given as goal

abbrev pub invariant-loop-node : goal.invariant-loop-node
invariant-loop-node l = (length l.all.items ≡ l.node) × (l.most ≤ vec_capacity l.all) × ((k : ℕ) → k < l.node → slice_index l.all.items k ≡ k)
