-- Why no isolate stands in a region that is kept as one. A kind has a height where isolates stand under it: 1 for arrays of
-- isolates, 2 for arrays of those, and so on; every other kind has 0.
use Rattle.std.specs.Prelude.{◌≡◌, ◌≢◌, ◌⊎◌, ◌≤◌, ℕ, suc, ◌+◌}
use Rattle.vale_state_spec.specs.World.{Value, Own, Isolate, World, Object, Lives}
use Rattle.vale_base.specs.declared.name.Kind.{Kind}
use Rattle.vale_region_laws.specs.Owned.{in_world}
use Rattle.vale_region_laws.specs.Regions.{Each, IsNoIso, held, Scene}
use Rattle.vale_region_laws.specs.Steps.{Step, is_held}

-- Nothing gets lost: each living object is owned, but for the roots of isolates whose owner was cleared away.
pub record Full (s : Scene) : Type 0 where
  pub found : (n : ℕ) (o : Object) → Lives s.world n o → o.region ≢ Isolate n → 1 ≤ held n s.holders + in_world n s.world

-- no owner is let go
abbrev pub LosesNothing : (s t : Scene) → Step s t → Type 0
LosesNothing s t (is_held home hs gs w c le fit) = (n : ℕ) → held n hs ≤ held n gs
LosesNothing s t _ = Unit {0}

module _ (height : Kind → ℕ) where
  -- an object that is owned by one of this kind has a height less by one, where it has any
  abbrev pub IsLower : World → Kind → Value → Type 0
  IsLower w kind (Own m) = (o : Object) → Lives w m o → 1 ≤ height o.kind → height kind ≡ suc (height o.kind)
  IsLower w kind _ = Unit {0}

  -- What types give.
  pub record Stacked (most : ℕ) (s : Scene) : Type 0 where
    pub bounded : (kind : Kind) → height kind ≤ most
    pub cells : (n : ℕ) (o : Object) → Lives s.world n o → Each IsNoIso o.values ⊎ (1 ≤ height o.kind)
    pub owned : (n : ℕ) (o : Object) → Lives s.world n o → Each (IsLower s.world o.kind) o.values
    pub roots : (n : ℕ) (o : Object) → Lives s.world n o → o.region ≡ Isolate n → height o.kind ≡ 0
