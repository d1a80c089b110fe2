use Rattle.std.proofs.Common.{◌≡◌, ℕ, ◌≤◌, drop, Some}
use Rattle.vale_cert.specs.Known.{label_at}
use Rattle.vale_cert.specs.Walk.{walk}
use Rattle.vale_verifier.specs.Walking.{Ahead, known_of}
use Rattle.vale_verifier.proofs.walk.walk.Given as goal

-- the labels from here on, and the walk from here on
abbrev pub invariant-loop-place : goal.invariant-loop-place
invariant-loop-place l = record {
  ahead : Ahead l.place l.left;
  same : (q : ℕ) → l.place ≤ q → label_at l.left q ≡ label_at l.labels q;
  rest : walk l.code l.func l.labels l.base l.place (drop l.place l.func.body) l.came (known_of l.depth l.regs)
      ≡ walk l.code l.func l.labels l.base 0 l.func.body l.fn.came (Some (record { depth = 0; regs = l.fn.regs }));
}
