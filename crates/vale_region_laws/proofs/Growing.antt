-- Births and writing: no name leaves its region.
use Rattle.std.proofs.Common.{◌≡◌, ◌≤◌, ℕ, suc, ◌+◌, List, [], ◌∷◌, ◌++◌, length, Some, None, ◌⊎◌, inl, inr, refl, sym, ap, subst, arith}
use Rattle.std.specs.Prelude.{slice_get, slice_set}
use Rattle.vale_state_spec.specs.State.{front_from, last_from}
use Rattle.vale_state_spec.specs.World.{Value, Int, Truth, Text, Own, Ref, Iso, Region, Freeze, Isolate, Object, World, Lives, IsDead, born, written}
use Rattle.vale_base.specs.declared.name.Kind.{Kind}
use Rattle.vale_region_laws.specs.Owned.{same, in_values}
use Rattle.vale_region_laws.specs.Regions.{Each, At, Waiting, Homes, InRegion, Within, IsBelow, Below, Sees, Awaits, How, Held, Seen, Waits, HowFits, HowDeep, Holder, HolderFits, RegionFits, ObjectFits, Fits, scene, holding, holding_all}
use Rattle.vale_region_laws.proofs.Counts.{values_set, values_append, front_owns, world_set, world_born, alive_born, alive_written, held_all, each_map, each_at, each_set, each_append, each_front}
use Rattle.vale_region_laws.proofs.Worlds.{last_new, last_keeps, born_in, born_is, written_in, set_dead, written_is}

-- ---- what leads below

pub to_below : (home : Homes) (w : World) (a n : ℕ) (r : Region) → InRegion w n r → IsBelow home a r → Below home w a n
to_below home w a n r h b = record { object = h.object; lives = h.lives; below = subst (IsBelow home a) (sym h.region) b }

pub in_below : (home : Homes) (w : World) (a n : ℕ) (b : Below home w a n) → InRegion w n b.object.region
in_below home w a n b = record { object = b.object; lives = b.lives; region = refl }

-- ---- how what stands somewhere goes over to another world

pub within_by : (home after : Homes) (w u : World) (r q : Region) (v : Value)
    → ((m : ℕ) → v ≡ Own m → InRegion w m r → InRegion u m q)
    → ((m : ℕ) → IsDead w m ⊎ InRegion w m r → IsDead u m ⊎ InRegion u m q)
    → ((m : ℕ) → v ≡ Iso m → InRegion w m (Isolate m) → (d : ℕ) → home m ≡ At d → r ≡ Freeze d → InRegion u m (Isolate m) × (e : ℕ) × (after m ≡ At e) × (q ≡ Freeze e))
    → Within home w r v → Within after u q v
within_by home after w u r q (Own n) f g k h = f n refl h
within_by home after w u r q (Ref n) f g k h = g n h
within_by home after w u r q (Iso n) f g k h = k n refl h.0 h.1 h.2 h.3
within_by home after w u r q (Int z) f g k h = tt
within_by home after w u r q (Truth b) f g k h = tt
within_by home after w u r q (Text t) f g k h = tt

pub sees_by : (home after : Homes) (w u : World) (a b : ℕ) (v : Value)
    → ((m : ℕ) → IsDead w m → IsDead u m) → ((m : ℕ) → Below home w a m → IsDead u m ⊎ Below after u b m)
    → Sees home w a v → Sees after u b v
sees_by home after w u a b (Own n) f g h = absurd h
sees_by home after w u a b (Ref n) f g h = at h
  where
    at : IsDead w n ⊎ Below home w a n → IsDead u n ⊎ Below after u b n
    at (inl d) = inl (f n d)
    at (inr x) = g n x
sees_by home after w u a b (Iso n) f g h = absurd h
sees_by home after w u a b (Int z) f g h = tt
sees_by home after w u a b (Truth t) f g h = tt
sees_by home after w u a b (Text t) f g h = tt

pub awaits_by : (home after : Homes) (w u : World) (v : Value)
    → ((m : ℕ) → v ≡ Iso m → InRegion w m (Isolate m) → home m ≡ Waiting → InRegion u m (Isolate m) × (after m ≡ Waiting))
    → Awaits home w v → Awaits after u v
awaits_by home after w u (Own n) f h = absurd h
awaits_by home after w u (Ref n) f h = absurd h
awaits_by home after w u (Iso n) f h = f n refl h.0 h.1
awaits_by home after w u (Int z) f h = tt
awaits_by home after w u (Truth t) f h = tt
awaits_by home after w u (Text t) f h = tt

pub how_by : (home after : Homes) (w u : World) (c : ℕ) (how : How) (v : Value)
    → ((a : ℕ) → a ≤ c → Within home w (Freeze a) v → Within after u (Freeze a) v)
    → ((a : ℕ) → a ≤ suc c → Sees home w a v → Sees after u a v)
    → (Awaits home w v → Awaits after u v)
    → HowDeep c how → HowFits home w how v → HowFits after u how v
how_by home after w u c (Held a) v f g k le h = f a le h
how_by home after w u c (Seen a) v f g k le h = g a le h
how_by home after w u c Waits v f g k le h = k h

pub split_all : (home : Homes) (w : World) (c a : ℕ) (vs : List Value) (hs : List Holder) → Each (HolderFits home w c) (holding_all a vs hs)
    → Each (Within home w (Freeze a)) vs × Each (HolderFits home w c) hs
split_all home w c a [] hs h = (tt, h)
split_all home w c a (v ∷ vs) hs h = let r = split_all home w c a vs hs h.1 in ((h.0.1, r.0), r.1)

pub join_all : (home : Homes) (w : World) (c a : ℕ) (vs : List Value) (hs : List Holder) → a ≤ c → Each (Within home w (Freeze a)) vs → Each (HolderFits home w c) hs
    → Each (HolderFits home w c) (holding_all a vs hs)
join_all home w c a [] hs le h g = g
join_all home w c a (v ∷ vs) hs le h g = ((le, h.0), join_all home w c a vs hs le h.1 g)

-- ---- a world that grows

pub record Grows (w u : World) : Type 0 where
  pub regions : (n : ℕ) (r : Region) → InRegion w n r → InRegion u n r
  pub dead : (n : ℕ) → IsDead w n → IsDead u n

module _ (home : Homes) (w u : World) (grows : Grows w u) where
  pub within_grown : (r : Region) (v : Value) → Within home w r v → Within home u r v
  within_grown r v h = within_by home home w u r r v (λ m e. grows.regions m r) (λ m. at m) (λ m e x d y z. (grows.regions m (Isolate m) x, d, y, z)) h
    where
      at : (m : ℕ) → IsDead w m ⊎ InRegion w m r → IsDead u m ⊎ InRegion u m r
      at m (inl d) = inl (grows.dead m d)
      at m (inr x) = inr (grows.regions m r x)

  pub sees_grown : (a : ℕ) (v : Value) → Sees home w a v → Sees home u a v
  sees_grown a v h = sees_by home home w u a a v grows.dead (λ m b. inr (to_below home u a m b.object.region (grows.regions m b.object.region (in_below home w a m b)) b.below)) h

  pub holder_grown : (c : ℕ) (h : Holder) → HolderFits home w c h → HolderFits home u c h
  holder_grown c h x = (
    x.0,
    how_by home home w u c h.how h.value (λ a le. within_grown (Freeze a) h.value) (λ a le. sees_grown a h.value)
        (awaits_by home home w u h.value (λ m e x y. (grows.regions m (Isolate m) x, y))) x.0 x.1,
  )

  pub holders_grown : (c : ℕ) (hs : List Holder) → Each (HolderFits home w c) hs → Each (HolderFits home u c) hs
  holders_grown c hs h = each_map _ _ hs (holder_grown c) h

  region_grown : (c : ℕ) (r : Region) → RegionFits w c r → RegionFits u c r
  region_grown c (Freeze d) h = h
  region_grown c (Isolate r) h = grows.regions r (Isolate r) h

  pub object_grown : (c : ℕ) (o : Object) → ObjectFits home w c o → ObjectFits home u c o
  object_grown c o h = record { region = region_grown c o.region h.region; cells = each_map _ _ o.values (within_grown o.region) h.cells }

pub born_grows : (w : World) (o : Object) → Grows w (born w o)
born_grows w o = record { regions = λ n r h. born_in w o n r h; dead = λ n d. last_keeps w (Some o) n None d }

pub written_grows : (w : World) (m : ℕ) (p q : Object) → Lives w m p → q.region ≡ p.region → Grows w (written w m q)
written_grows w m p q e same = record { regions = λ n r h. written_in w m p q n r e same h; dead = λ n d. set_dead w m p (Some q) n e d }

-- ---- births

abbrev pub made : ℕ → Kind → List Value → Object
made c kind vs = record { region = Freeze c; kind = kind; values = vs }

-- An object of the innermost region is made of values that were held there, and its owner is held there.
pub born_fits : (home : Homes) (hs : List Holder) (w : World) (c : ℕ) (kind : Kind) (vs : List Value)
    → Fits (scene home (holding_all c vs hs) w c) → Fits (scene home (holding c (Own (length w)) ∷ hs) (born w (made c kind vs)) c)
born_fits home hs w c kind vs f = record {
  once = λ n.
      let a = f.once n in let b = held_all n c vs hs in let d = world_born n w (made c kind vs) in let e = alive_born n w (made c kind vs) in
      omega (arith, a, b, d, e);
  holders = ((omega arith, new), holders_grown home w u grows c hs parts.1);
  objects = λ n o e. at n o (born_is w (made c kind vs) n o e);
}
  where
    u : World
    u = born w (made c kind vs)

    grows : Grows w (born w (made c kind vs))
    grows = born_grows w (made c kind vs)

    parts : Each (Within home w (Freeze c)) vs × Each (HolderFits home w c) hs
    parts = split_all home w c c vs hs f.holders

    new : InRegion (born w (made c kind vs)) (length w) (Freeze c)
    new = record { object = made c kind vs; lives = last_new w (Some (made c kind vs)); region = refl }

    own_fits : ObjectFits home (born w (made c kind vs)) c (made c kind vs)
    own_fits = record { region = omega arith; cells = each_map _ _ vs (within_grown home w (born w (made c kind vs)) grows (Freeze c)) parts.0 }

    at : (n : ℕ) (o : Object) → Lives w n o ⊎ (made c kind vs ≡ o) → ObjectFits home (born w (made c kind vs)) c o
    at n o (inl e) = object_grown home w (born w (made c kind vs)) grows c o (f.objects n o e)
    at n o (inr e) = subst (ObjectFits home (born w (made c kind vs)) c) e own_fits

-- ---- writing

-- An object of the innermost region gets other values: some that were held there come in, and others are held there after it.
pub written_fits : (home : Homes) (hs : List Holder) (w : World) (c n : ℕ) (o : Object) (vs ins outs : List Value)
    → Lives w n o → o.region ≡ Freeze c
    → ((k : ℕ) → in_values k vs + in_values k outs ≡ in_values k o.values + in_values k ins)
    → (Each (Within home w (Freeze c)) o.values → Each (Within home w (Freeze c)) ins → Each (Within home w (Freeze c)) vs × Each (Within home w (Freeze c)) outs)
    → Fits (scene home (holding_all c ins hs) w c) → Fits (scene home (holding_all c outs hs) (written w n (record o { values = vs })) c)
written_fits home hs w c n o vs ins outs lives inner counts cells f = record {
  once = λ k.
      let a = f.once k in let b = held_all k c ins hs in let d = held_all k c outs hs in let e = world_set k w n o (Some q) lives in
      let g = alive_written k w n o q lives in let i = counts k in
      omega (arith, a, b, d, e, g, i);
  holders = join_all home u c c outs hs (omega arith) (each_map _ _ outs (within_grown home w u grows (Freeze c)) after.1) (holders_grown home w u grows c hs parts.1);
  objects = λ k p e. at k p (written_is w n q k p e);
}
  where
    q : Object
    q = record o { values = vs }

    u : World
    u = written w n (record o { values = vs })

    grows : Grows w (written w n (record o { values = vs }))
    grows = written_grows w n o (record o { values = vs }) lives refl

    parts : Each (Within home w (Freeze c)) ins × Each (HolderFits home w c) hs
    parts = split_all home w c c ins hs f.holders

    before : Each (Within home w (Freeze c)) o.values
    before = subst (λ r. Each (Within home w r) o.values) inner (f.objects n o lives).cells

    after : Each (Within home w (Freeze c)) vs × Each (Within home w (Freeze c)) outs
    after = cells before parts.0

    q_fits : ObjectFits home (written w n (record o { values = vs })) c (record o { values = vs })
    q_fits = record {
      region = (object_grown home w (written w n (record o { values = vs })) grows c o (f.objects n o lives)).region;
      cells = each_map _ _ vs (within_grown home w (written w n (record o { values = vs })) grows o.region) (subst (λ r. Each (Within home w r) vs) (sym inner) after.0);
    }

    at : (k : ℕ) (p : Object) → Lives w k p ⊎ (record o { values = vs } ≡ p) → ObjectFits home (written w n (record o { values = vs })) c p
    at k p (inl e) = object_grown home w (written w n (record o { values = vs })) grows c p (f.objects k p e)
    at k p (inr e) = subst (ObjectFits home (written w n (record o { values = vs })) c) e q_fits

-- a field or an element is set
pub swapped_fits : (home : Homes) (hs : List Holder) (w : World) (c n : ℕ) (o : Object) (i : ℕ) (old new : Value)
    → Lives w n o → o.region ≡ Freeze c → slice_get o.values i ≡ Some old
    → Fits (scene home (holding c new ∷ hs) w c) → Fits (scene home (holding c old ∷ hs) (written w n (record o { values = slice_set o.values i new })) c)
swapped_fits home hs w c n o i old new lives inner e f =
    written_fits home hs w c n o (slice_set o.values i new) (new ∷ []) (old ∷ []) lives inner
    (λ k. let a = values_set k o.values i old new e in omega (arith, a))
    (λ before ins. (each_set _ o.values i new ins.0 before, (each_at _ o.values i old e before, tt))) f

pub pushed_fits : (home : Homes) (hs : List Holder) (w : World) (c n : ℕ) (o : Object) (new : Value)
    → Lives w n o → o.region ≡ Freeze c
    → Fits (scene home (holding c new ∷ hs) w c) → Fits (scene home hs (written w n (record o { values = o.values ++ new ∷ [] })) c)
pushed_fits home hs w c n o new lives inner f =
    written_fits home hs w c n o (o.values ++ new ∷ []) (new ∷ []) [] lives inner
    (λ k. let a = values_append k o.values new in omega (arith, a))
    (λ before ins. (each_append _ o.values new ins.0 before, tt)) f

pub popped_fits : (home : Homes) (hs : List Holder) (w : World) (c n : ℕ) (o : Object) (v : Value) (vs : List Value)
    → Lives w n o → o.region ≡ Freeze c → o.values ≡ v ∷ vs
    → Fits (scene home hs w c) → Fits (scene home (holding c (last_from v vs) ∷ hs) (written w n (record o { values = front_from v vs })) c)
popped_fits home hs w c n o v vs lives inner e f =
    written_fits home hs w c n o (front_from v vs) [] (last_from v vs ∷ []) lives inner
    (λ k. let a = front_owns k v vs in let b = ap (in_values k) e in omega (arith, a, b))
    (λ before ins. let s = subst (Each (Within home w (Freeze c))) e before in let r = each_front _ v vs s.0 s.1 in (r.0, (r.1, tt))) f
