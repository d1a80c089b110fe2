-- What is known of implementations by the pairs of an interface and a struct.
use Rattle.std.specs.Prelude.{ℕ, List, ◌≡◌}
use Rattle.std.specs.BTreeSet.{contains}
use Rattle.std.specs.Ordering.{nat_cmp, ordering_then}
use Rattle.std.specs.declared.cmp.Ordering.{Ordering}
use Rattle.vale_base.specs.declared.name.Kind.{Kind}
use Rattle.vale_code.specs.declared.func.Impl.{Impl}
use Rattle.vale_cert.specs.Objects.{is_implemented}
use Rattle.vale_shape.specs.declared.implementations.Implementations.{Implementations}

-- by interface, and then by struct
abbrev pub pair_cmp : ℕ × ℕ → ℕ × ℕ → Ordering
pair_cmp a b = ordering_then (nat_cmp a.0 b.0) (nat_cmp a.1 b.1)

-- the pairs are those of these implementations
abbrev pub Knows : Implementations → List Impl → Type 0
Knows known impls = (interface of : Kind) → contains pair_cmp known.pairs (interface.0, of.0) ≡ is_implemented impls interface of
