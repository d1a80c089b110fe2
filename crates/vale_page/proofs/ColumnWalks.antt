-- What the walks of a column's methods share: the first three parameters as they are had, a cell taken out of its column and put
-- back, and how a walk that takes or puts a content meets its contract. Assumes `Logic`.
use mathlib.Core.Path.{◌≡◌, refl, sym, subst}
use Prim.Native.Nat.{ℕ, ◌+◌, ◌*◌, ◌<◌, ◌^◌}
use native.Mathlib.Omega.{arith}
use mathlib.Core.List.{List, [], ◌∷◌, ◌++◌}
use seplogic.Ra.Ura.{Ura}
use mir.Syntax.{Fn, Callee, named, w64}
use mir.Val.{Val, vptr, vint, vunit}
use base.Logic.{SProp, ent, sep, never, id⊢}
use base.Fml.{Lft, Share, ftrue, flft, fobs, fbor}
use prog.Model.{Model}
use prog.Wp.{WpFn, Tables, Closed}
use types.Logic.{Logic, sem}
use contract.Lifetimes.{Lfts}
use contract.Monad.{fact}
use contract.Running.{Running, tables, tables_of}
use sound.WpLaws.{WpFn-mono}
use types.Kit.{Item, Goal, Seq, ⋆, ‵, ◌⊛◌, ◌$◌, ◌∵◌, !, qed, by, move, keep, drop as skip, use1, use2, split, join, rewrite, fsplit, fsplit3, fjoin, fjoin3, feq_i, feq_l, flt_l, flt_i, suffices, frame, done}
use types.SemTy.{Body as Borrowed}
use lib.ListN.{length, set, get_or, length-set}
use denote.Exit.{Last, left, yes, no}
use denote.RattleType.{RattleType, Denots, Valss, owns}
use denote.Memory.{mem}
use denote.Param.{param}
use denote.RawPtr.{Ptr, block_ptr, in_a_block}
use denote.Ref.{MutBor, MutRef}
use denote.Builtin.{RefMutOf, usize, unit}
use denote.Signature.{plain}
use denote.Steps.{nothing}
use denote.Triple.Carry.{grown, spared}
use denote.Triple.Clauses.{Clauses, Ended, closing}
use denote.Triple.Spec.{Meets, triple_of}
use denote.Triple.Statement.{Triple}
use denote.Triple.Table.{entered, run_framed}
use denote.Triple.Walked.{says, needs, Stays, stay_dropped, stay_ref, walk_of, ends_at, Goes-dropped, Goes-ref, walk_Meets}
use Rattle.std.proofs.RcSteps.{word}
use Rattle.std.proofs.mem.Param.{El, R}
use Rattle.std.proofs.ptr.Rows.{times_below, one_below}
use Rattle.vale_page.specs.Cell.{Empty}
use Rattle.vale_page.specs.ColumnLends.{with_cells}
use Rattle.vale_page.specs.Ownership.{cell, cells, column_own}
use Rattle.vale_page.proofs.Memory.{Bs, Cs, Mark_of, Place, Besides, cell_in, cell_out, says_both, st, sz, word_had}

-- how far apart cells lie, and where one lies, are numbers of 64 bits
pub spans : (n index stride : ℕ) → index < n → n * stride < 2 ^ 63 → (stride < 2 ^ 64) × (index * stride < 2 ^ 64)
spans n index stride within small = (omega (arith, one_below n stride (2 ^ 63) (omega arith) small), omega (arith, times_below index n stride (2 ^ 63) (omega arith) small))

module _ {M : Type 1} {𝓤 : Ura M} (𝓛 : Logic 𝓤) (𝓜 : Model 𝓤 𝓛.H) (𝓡 : Running 𝓤 𝓛.H 𝓜) where
  abbrev pub around : Tables 𝓤 𝓛.H
  around = tables_of 𝓤 𝓛.H 𝓜 (tables 𝓤 𝓛.H 𝓜 𝓡 𝓡.env)

  -- a method of a type with two type parameters meets its contract where its body does
  pub method_meets : (T : Ended) (c : Clauses 𝓤 T) (k : Callee) (f : Fn) (ℓs : Lfts 2) → Closed 𝓤 𝓛.H around.C around.Λ k f
      → Meets 𝓛 T.signature (WpFn 𝓤 𝓛.H around.C around.Λ f) (closing 𝓛 T c) → Triple 𝓤 (𝓡.run (𝓡.env k)) (grown 𝓛 T.signature 2 ℓs (closing 𝓛 T c))
  unfolding tables_of
  method_meets T c k f ℓs closed meets =
      spared 𝓛 T.signature (𝓡.run (𝓡.env k)) (run_framed 𝓤 𝓛.H 𝓜 𝓡 (𝓡.env k)) 2 ℓs (closing 𝓛 T c)
      (entered 𝓤 𝓛.H (triple_of 𝓛 T.signature (closing 𝓛 T c)) around.C around.Λ k f closed meets)

module _ (E : El) (S : RattleType) where
  -- what is had of a `&mut` of a column, and the lifetime's token
  abbrev pub Had : {M : Type 1} (𝓤 : Ura M) → Lft → Share → MutBor (Cs E S).Denot → List (Item 𝓤)
  Had 𝓤 κ q self = ‵ (fobs self.ghost_name ((Cs E S).coded.code self.now)) ∷ ‵ (fbor κ (Borrowed (mem (Cs E S)) self.ref_ptr.0 self.ref_ptr.1 self.ghost_name)) ∷ ‵ (flft κ q) ∷ []

  module _ {M : Type 1} {𝓤 : Ura M} (𝓛 : Logic 𝓤) where
    -- a walk begins with the first three parameters, and what is owned of the others
    pub enters_with : (Ts : List RattleType) (κ : Lft) (q : Share) (self : MutBor (Cs E S).Denot) (base : (Bs E).Denot) (index : (usize).Denot) (a : Denots Ts) (us0 us1 us2 : List Val) (vss : Valss Ts) (rest : List Val) (run : List Val → SProp 𝓤)
        → (us0 ≡ vptr self.ref_ptr.0 self.ref_ptr.1 ∷ [] → index < 2 ^ 64 → ent 𝓤 (⋆ 𝓛 (‵ (owns Ts a vss) ∷ Had 𝓤 κ q self)) (run (vptr self.ref_ptr.0 self.ref_ptr.1 ∷ word base.ptr ∷ vint w64 index ∷ rest)))
        → ent 𝓤 (⋆ 𝓛 ((‵ (flft κ q) ⊛ ‵ ftrue) ∷ ‵ (owns (MutRef (named 0) κ (Cs E S) ∷ Bs E ∷ usize ∷ Ts) (self, (base, (index, a))) (us0, (us1, (us2, vss)))) ∷ [])) (run (us0 ++ (us1 ++ (us2 ++ rest))))
    enters_with Ts κ q self base index a us0 us1 us2 vss rest run walk =
        qed 𝓛 ((‵ (flft κ q) ⊛ ‵ ftrue) ∷ ‵ (owns (MutRef (named 0) κ (Cs E S) ∷ Bs E ∷ usize ∷ Ts) (self, (base, (index, a))) (us0, (us1, (us2, vss)))) ∷ []) ∵
        split ! $ move ! (2 ∷ []) $ fsplit ! $ fsplit3 ! $ feq_l ! (λ e0. move ! (2 ∷ []) $ fsplit ! $ word_had ! base.ptr us1 (λ e1.
        fsplit ! $ fsplit ! $ feq_l ! (λ e2. flt_l ! (λ fits. keep ! (0 ∷ 1 ∷ 2 ∷ 3 ∷ []) $
        by ! (subst (λ (ws : List Val × List Val × List Val). ent 𝓤 (⋆ 𝓛 (‵ (owns Ts a vss) ∷ Had 𝓤 κ q self)) (run (ws.0 ++ (ws.1 ++ (ws.2 ++ rest))))) (λ j. (sym e0 j, sym e1 j, sym e2 j)) (walk e0 fits))))))

  module _ {M : Type 1} {𝓤 : Ura M} {𝓛 : Logic 𝓤} {K : Type 0} {Γ : List (Item 𝓤)} {G : Goal 𝓤 𝓛.H} where
    -- a cell is taken out of its column: beside it are the other cells, and the column's mark
    pub cell_taken : K → (d : (Cs E S).Denot) (vs : List Val) (index : ℕ) (c : Place E) → index < length d.cells → get_or d.cells index Empty ≡ c
        → ((b o : ℕ) → d.at ≡ block_ptr b o → 0 < sz E → length d.cells * st S < 2 ^ 63
        → Seq K 𝓛 (‵ (cell (R E) b (index * st S + o) c) ∷ ‵ (Besides E (st S) 𝓛 b o d.cells index) ∷ ‵ ((Mark_of (R E) (param 1 S)).own_val (tt, tt) vs) ∷ Γ) G)
        → Seq K 𝓛 (‵ ((Cs E S).own_val d vs) ∷ Γ) G
    cell_taken t d vs index c within is k =
        fsplit t $ move t (1 ∷ []) $ in_a_block t d.at (λ p. column_own (R E) p (st S) d.cells) (id⊢ 𝓤 (never 𝓤)) (λ b o e. fsplit t $ flt_l t (λ sized. fsplit t $ flt_l t (λ small.
        use1 𝓛 (‵ (cell (R E) b (index * st S + o) (get_or d.cells index Empty)) ⊛ ‵ (Besides E (st S) 𝓛 b o d.cells index)) (cell_out E (st S) 𝓛 b o d.cells index within) $ split t $
        rewrite t 0 (λ (x : Place E). ‵ (cell (R E) b (index * st S + o) x)) is refl $ k b o e sized small)))

  -- the column, whose cell has this now
  abbrev pub with_cell : (Cs E S).Denot → ℕ → Place E → (Cs E S).Denot
  with_cell d index c = with_cells d (set d.cells index c)

  module _ {M : Type 1} {𝓤 : Ura M} (𝓛 : Logic 𝓤) where
    -- a cell, the other cells and the column's mark are the column
    pub column_made : (d : (Cs E S).Denot) (vs : List Val) (index : ℕ) (c : Place E) (b o : ℕ) → index < length d.cells → d.at ≡ block_ptr b o → 0 < sz E → length d.cells * st S < 2 ^ 63
        → ent 𝓤 (sep 𝓤 (sem 𝓛 (cell (R E) b (index * st S + o) c)) (sep 𝓤 (sem 𝓛 (Besides E (st S) 𝓛 b o d.cells index)) (sem 𝓛 ((Mark_of (R E) (param 1 S)).own_val (tt, tt) vs)))) (sem 𝓛 ((Cs E S).own_val (with_cell d index c) vs))
    column_made d vs index c b o within e sized small =
        let new = set d.cells index c in
        qed 𝓛 (‵ (cell (R E) b (index * st S + o) c) ∷ ‵ (Besides E (st S) 𝓛 b o d.cells index) ∷ ‵ ((Mark_of (R E) (param 1 S)).own_val (tt, tt) vs) ∷ []) ∵
        use2 𝓛 (‵ (cells (R E) (st S) b o new)) (cell_in E (st S) 𝓛 b o d.cells index within c) $
        flt_i ! (length new * st S) (2 ^ 63) (subst (λ k. k * st S < 2 ^ 63) (sym (length-set d.cells index c)) small) $ fjoin ! $ flt_i ! 0 (sz E) sized $ fjoin ! $
        rewrite ! 0 (λ (p : Ptr). ‵ (column_own (R E) p (st S) new)) (sym e) refl $ move ! (1 ∷ 0 ∷ []) $ fjoin ! $ done !

-- Taking a content out of a cell, which is empty then.
module _ (E : El) (S Y : RattleType) (content : Y.Denot → Place E) where
  abbrev pub taking : Ended
  taking = record { signature = record { lifetimes = 1; outlives = []; params = RefMutOf (0 ∷ []) tt (plain (λ _. Cs E S)) (λ _. tt) ∷ plain (λ _. Bs E) ∷ plain (λ _. usize) ∷ []; result = plain (λ _. Y) }; kept = (yes, (no, (no, tt))) }

  abbrev taking_stays : Stays taking.signature.params taking.kept
  taking_stays = (stay_ref (0 ∷ []) tt (plain (λ _. Cs E S)), (stay_dropped (plain (λ _. Bs E)) no, (stay_dropped (plain (λ _. usize)) no, tt)))

  abbrev Holds : (Cs E S).Denot → ℕ → Type 0
  Holds d index = (x : Y.Denot) × (get_or d.cells index Empty ≡ content x)

  abbrev pub CanTake : (Cs E S).Denot → (Bs E).Denot → ℕ → Type 0
  CanTake d base index = (base.ptr ≡ d.at) × Holds d index

  abbrev pub IsTaken : (Cs E S).Denot → ℕ → (Cs E S).Denot → Type 0
  IsTaken d index new = (new.at ≡ d.at) × (new.cells ≡ set d.cells index Empty)

  abbrev pub takes : {M : Type 1} {𝓤 : Ura M} (𝓛 : Logic 𝓤) → Clauses 𝓤 taking
  takes {𝓤 = 𝓤} 𝓛 κs a = record { ghost = Unit {0}; requires = λ _. fact 𝓤 (CanTake a.0.now a.1.0 a.1.1.0); ensures = λ _ r w. sep 𝓤 (fact 𝓤 (get_or a.0.now.cells a.1.1.0 Empty ≡ content r)) (fact 𝓤 (IsTaken a.0.now a.1.1.0 w.0.now)) }

  module _ {M : Type 1} {𝓤 : Ura M} (𝓛 : Logic 𝓤) where
    module _ (κ : Lft) (q : Share) (self : MutBor (Cs E S).Denot) (base : (Bs E).Denot) (index : (usize).Denot) (us0 us1 us2 : List Val) where
      abbrev take_bound : (walk_of 𝓛 taking taking_stays (takes 𝓛)).Ghost
      take_bound = (((κ, tt), (q, tt), tt, (self, (base, (index, tt))), (us0, (us1, (us2, tt)))), tt)

      abbrev pub Taken : Val → SProp 𝓤
      Taken = (walk_of 𝓛 taking taking_stays (takes 𝓛)).post take_bound

      pub take_ends : us0 ≡ vptr self.ref_ptr.0 self.ref_ptr.1 ∷ [] → (r : Y.Denot) (v : Val) (new : (Cs E S).Denot) → get_or self.now.cells index Empty ≡ content r → IsTaken self.now index new
          → ent 𝓤 (⋆ 𝓛 (‵ (Y.own_val r (v ∷ [])) ∷ Had E S 𝓤 κ q (record self { now = new }))) (Taken v)
      take_ends passed r v new was taken =
          qed 𝓛 (‵ (Y.own_val r (v ∷ [])) ∷ Had E S 𝓤 κ q (record self { now = new })) ∵
          suffices ! _ (ends_at 𝓛 taking taking_stays (takes 𝓛) take_bound v r (new, (tt, (tt, tt))) (tt, (tt, (tt, tt)))) $ says_both ! was taken $
          move ! (1 ∷ 2 ∷ 3 ∷ 0 ∷ []) $ nothing ! $ move ! (3 ∷ 0 ∷ []) $ join ! $ frame ! $ feq_i ! (List Val) us0 (vptr self.ref_ptr.0 self.ref_ptr.1 ∷ []) passed $ fjoin3 ! $ nothing ! $ nothing ! $ fjoin ! $ nothing ! $ fjoin ! $ move ! (1 ∷ 0 ∷ []) $ fjoin ! $ done !

    pub take_meets : (𝓣 : Tables 𝓤 𝓛.H) (f : Fn)
        → ((κ : Lft) (q : Share) (self : MutBor (Cs E S).Denot) (base : (Bs E).Denot) (index : (usize).Denot) (us0 us1 us2 : List Val) → us0 ≡ vptr self.ref_ptr.0 self.ref_ptr.1 ∷ [] → CanTake self.now base index → index < 2 ^ 64
        → ent 𝓤 (⋆ 𝓛 (Had E S 𝓤 κ q self)) (WpFn 𝓤 𝓛.H 𝓣.C 𝓣.Λ f (vptr self.ref_ptr.0 self.ref_ptr.1 ∷ word base.ptr ∷ vint w64 index ∷ []) (Taken κ q self base index us0 us1 us2)))
        → Meets 𝓛 taking.signature (WpFn 𝓤 𝓛.H 𝓣.C 𝓣.Λ f) (closing 𝓛 taking (takes 𝓛))
    take_meets 𝓣 f walk =
        walk_Meets 𝓛 taking taking_stays (Goes-ref 𝓛 1 0 tt (plain (λ _. Cs E S)), (Goes-dropped 𝓛 1 (plain (λ _. Bs E)) no (λ κs x f. refl), (Goes-dropped 𝓛 1 (plain (λ _. usize)) no (λ κs x f. refl), tt))) (takes 𝓛) (WpFn 𝓤 𝓛.H 𝓣.C 𝓣.Λ f) (WpFn-mono 𝓤 𝓛.H 𝓛.laws 𝓣 f)
        (λ z. let κ : Lft = z.0.0.0 in let q : Share = z.0.1.0 in let self : MutBor (Cs E S).Denot = z.0.3.0 in let base : (Bs E).Denot = z.0.3.1.0 in let index : ℕ = z.0.3.1.1.0 in
        let us0 : List Val = z.0.4.0 in let us1 : List Val = z.0.4.1.0 in let us2 : List Val = z.0.4.1.1.0 in
        needs 𝓤 (CanTake self.now base index) _ (λ can.
        enters_with E S 𝓛 [] κ q self base index tt us0 us1 us2 tt [] (λ vs. WpFn 𝓤 𝓛.H 𝓣.C 𝓣.Λ f vs (Taken κ q self base index us0 us1 us2)) (λ passed fits.
        qed 𝓛 (‵ ftrue ∷ Had E S 𝓤 κ q self) ∵ skip ! $ by ! (walk κ q self base index us0 us1 us2 passed can fits))))

-- Putting a content into an empty cell. Of the content's type a call says nothing at its exit.
module _ (E : El) (S Y : RattleType) (content : Y.Denot → Place E) (last : (x : Y.Denot) → Last (Y.exit no) x) (silent : (x : Y.Denot) (w : Last (Y.exit no) x) → left (Y.exit no) x w ≡ ftrue) where
  abbrev pub putting : Ended
  putting = record { signature = record { lifetimes = 1; outlives = []; params = RefMutOf (0 ∷ []) tt (plain (λ _. Cs E S)) (λ _. tt) ∷ plain (λ _. Bs E) ∷ plain (λ _. usize) ∷ plain (λ _. Y) ∷ []; result = plain (λ _. unit) }; kept = (yes, (no, (no, (no, tt)))) }

  abbrev putting_stays : Stays putting.signature.params putting.kept
  putting_stays = (stay_ref (0 ∷ []) tt (plain (λ _. Cs E S)), (stay_dropped (plain (λ _. Bs E)) no, (stay_dropped (plain (λ _. usize)) no, (stay_dropped (plain (λ _. Y)) no, tt))))

  abbrev pub CanPut : (Cs E S).Denot → (Bs E).Denot → ℕ → Type 0
  CanPut d base index = (base.ptr ≡ d.at) × (index < length d.cells) × (get_or d.cells index Empty ≡ Empty)

  abbrev pub IsPut : (Cs E S).Denot → ℕ → Y.Denot → (Cs E S).Denot → Type 0
  IsPut d index item new = (new.at ≡ d.at) × (new.cells ≡ set d.cells index (content item))

  abbrev pub puts : {M : Type 1} {𝓤 : Ura M} (𝓛 : Logic 𝓤) → Clauses 𝓤 putting
  puts {𝓤 = 𝓤} 𝓛 κs a = record { ghost = Unit {0}; requires = λ _. fact 𝓤 (CanPut a.0.now a.1.0 a.1.1.0); ensures = λ _ r w. fact 𝓤 (IsPut a.0.now a.1.1.0 a.1.1.1.0 w.0.now) }

  module _ {M : Type 1} {𝓤 : Ura M} (𝓛 : Logic 𝓤) where
    module _ (κ : Lft) (q : Share) (self : MutBor (Cs E S).Denot) (base : (Bs E).Denot) (index : (usize).Denot) (item : Y.Denot) (us0 us1 us2 us3 : List Val) where
      abbrev put_bound : (walk_of 𝓛 putting putting_stays (puts 𝓛)).Ghost
      put_bound = (((κ, tt), (q, tt), tt, (self, (base, (index, (item, tt)))), (us0, (us1, (us2, (us3, tt))))), tt)

      abbrev pub Put : Val → SProp 𝓤
      Put = (walk_of 𝓛 putting putting_stays (puts 𝓛)).post put_bound

      pub put_ends : us0 ≡ vptr self.ref_ptr.0 self.ref_ptr.1 ∷ [] → (new : (Cs E S).Denot) → IsPut self.now index item new → ent 𝓤 (⋆ 𝓛 (Had E S 𝓤 κ q (record self { now = new }))) (Put vunit)
      put_ends passed new put =
          qed 𝓛 (Had E S 𝓤 κ q (record self { now = new })) ∵
          suffices ! _ (ends_at 𝓛 putting putting_stays (puts 𝓛) put_bound vunit tt (new, (tt, (tt, (last item, tt)))) (tt, (tt, (tt, (tt, tt))))) $ says ! put $
          feq_i ! (List Val) (vunit ∷ []) (vunit ∷ []) refl $ move ! (1 ∷ 2 ∷ 3 ∷ 0 ∷ []) $
          nothing ! $ move ! (3 ∷ 0 ∷ []) $ join ! $ frame ! $ feq_i ! (List Val) us0 (vptr self.ref_ptr.0 self.ref_ptr.1 ∷ []) passed $ fjoin3 ! $ nothing ! $ nothing ! $ fjoin ! $ nothing ! $ fjoin ! $ nothing ! $ fjoin ! $ move ! (1 ∷ 0 ∷ []) $ fjoin ! $ done !

    pub put_meets : (𝓣 : Tables 𝓤 𝓛.H) (f : Fn)
        → ((κ : Lft) (q : Share) (self : MutBor (Cs E S).Denot) (base : (Bs E).Denot) (index : (usize).Denot) (item : Y.Denot) (us0 us1 us2 us3 : List Val) → us0 ≡ vptr self.ref_ptr.0 self.ref_ptr.1 ∷ [] → CanPut self.now base index → index < 2 ^ 64
        → ent 𝓤 (⋆ 𝓛 (‵ (Y.own_val item us3) ∷ Had E S 𝓤 κ q self)) (WpFn 𝓤 𝓛.H 𝓣.C 𝓣.Λ f (vptr self.ref_ptr.0 self.ref_ptr.1 ∷ word base.ptr ∷ vint w64 index ∷ us3 ++ []) (Put κ q self base index item us0 us1 us2 us3)))
        → Meets 𝓛 putting.signature (WpFn 𝓤 𝓛.H 𝓣.C 𝓣.Λ f) (closing 𝓛 putting (puts 𝓛))
    put_meets 𝓣 f walk =
        walk_Meets 𝓛 putting putting_stays (Goes-ref 𝓛 1 0 tt (plain (λ _. Cs E S)), (Goes-dropped 𝓛 1 (plain (λ _. Bs E)) no (λ κs x f. refl), (Goes-dropped 𝓛 1 (plain (λ _. usize)) no (λ κs x f. refl), (Goes-dropped 𝓛 1 (plain (λ _. Y)) no (λ κs. silent), tt)))) (puts 𝓛) (WpFn 𝓤 𝓛.H 𝓣.C 𝓣.Λ f) (WpFn-mono 𝓤 𝓛.H 𝓛.laws 𝓣 f)
        (λ z. let κ : Lft = z.0.0.0 in let q : Share = z.0.1.0 in let self : MutBor (Cs E S).Denot = z.0.3.0 in let base : (Bs E).Denot = z.0.3.1.0 in let index : ℕ = z.0.3.1.1.0 in let item : Y.Denot = z.0.3.1.1.1.0 in
        let us0 : List Val = z.0.4.0 in let us1 : List Val = z.0.4.1.0 in let us2 : List Val = z.0.4.1.1.0 in let us3 : List Val = z.0.4.1.1.1.0 in
        needs 𝓤 (CanPut self.now base index) _ (λ can.
        enters_with E S 𝓛 (Y ∷ []) κ q self base index (item, tt) us0 us1 us2 (us3, tt) (us3 ++ []) (λ vs. WpFn 𝓤 𝓛.H 𝓣.C 𝓣.Λ f vs (Put κ q self base index item us0 us1 us2 us3)) (λ passed fits.
        qed 𝓛 (‵ (owns (Y ∷ []) (item, tt) (us3, tt)) ∷ Had E S 𝓤 κ q self) ∵ fsplit ! $ keep ! (0 ∷ 2 ∷ 3 ∷ 4 ∷ []) $ by ! (walk κ q self base index item us0 us1 us2 us3 passed can fits))))
