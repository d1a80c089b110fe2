-- `get_mut` lends one value, and the places follow it. Assumes `Logic`.
use mathlib.Core.Path.{◌≡◌, refl, ◌∙◌}
use Prim.Native.Nat.{ℕ, ◌+◌, ◌*◌, ◌<◌, ◌^◌}
use mathlib.Core.List.{List, [], ◌∷◌}
use seplogic.Ra.Ura.{Ura}
use base.Fraction.{full_share}
use mir.Syntax.{Fn, named, w64}
use mir.MapTy.{inst_fn}
use mir.Val.{Val, vptr, vint}
use base.Logic.{SProp, ent, sep}
use base.Fml.{Lft, GName, Share, Fml, ftrue, fsep, fat, flft}
use prog.Wp.{Env, Calls, Loops, WpFn, Tables}
use types.Logic.{Logic, sem}
use contract.Monad.{fact}
use contract.Running.{tables_of}
use sound.WpLaws.{WpFn-mono}
use types.Kit.{drop, use3, ⋆, ‵, raw, some, later, await, pick, at_ret, ◌$◌, ◌∵◌, !, qed, by, move, keep, use1, join, group, rewrite, fsplit3, fjoin, fjoin3, fpack, suffices, frame, done}
use types.Part.{whole, sub}
use types.Run.{stop, fld, of_opd, addr, first, blocks, exec, returns, enter}
use types.ByLocal.{alloc_all, pass_all, free_all, look_at, get, get_in, through, sets, sets_last, env}
use denote.Exit.{no}
use denote.RattleType.{RattleType}
use denote.Memory.{mem, cell_at, part_of}
use denote.Param.{layout, param}
use denote.RawPtr.{Ptr, block_ptr}
use denote.Ref.{MutBor, MutRef}
use denote.Builtin.{RefMutOf}
use denote.Signature.{plain, mut_ref_to}
use denote.Steps.{nothing, opens}
use denote.Triple.Clauses.{Clauses, Ended, closing}
use denote.Triple.Spec.{Meets}
use denote.Triple.Walked.{says, needs, Stays, stay_dropped, walk_of, ends_at, Goes-dropped, Goes-spent_ref, walk_Meets}
use Rattle.std.proofs.VecSteps.Shapes.{after}
use Rattle.std.proofs.RcSteps.{word, word-Good}
use lib.ListN.{length, set, get_or}
use types.Run.{bin, size_lit}
use types.ByLocal.{take_at, give_at}
use denote.Builtin.{usize}
use Rattle.vale_page.specs.Cell.{Empty, Filled, IsFilled}
use Rattle.vale_page.proofs.Memory.{args2, st, Cs}
use Rattle.std.proofs.mem.Param.{El, R, el_x}
use Rattle.vale_page.specs.Ownership.{cell}
use Rattle.vale_page.proofs.Memory.{Bs, Mark_of, sz, filled_within, Besides}
use Rattle.vale_page.proofs.ColumnWalks.{spans, around, method_meets, Had, enters_with, cell_taken, with_cell, column_made}
use denote.Follow.{follows, Part, lends_Part}
use Rattle.vale_page.specs.ColumnLends.{with_cells}
use Rattle.vale_page.specs.contracts.column.Column.get_mut.Key.{name as #self}
use Rattle.vale_page.proofs.column.Column.get_mut.Statement as stated
use Rattle.vale_page.proofs.column.Column.get_mut.Code as code

module _ (E : El) (S : RattleType) where
  abbrev function : Fn
  function = inst_fn (args2 E S) code.function

  abbrev ended : Ended
  ended = record { signature = record { lifetimes = 1; outlives = []; params = RefMutOf (0 ∷ []) tt (plain (λ _. Cs E S)) (λ _. tt) ∷ plain (λ _. Bs E) ∷ plain (λ _. usize) ∷ []; result = RefMutOf (0 ∷ []) tt (plain (λ _. R E)) (λ _. tt) }; kept = (no, (no, (no, tt))) }

  abbrev stayed : Stays ended.signature.params ended.kept
  stayed = (stay_dropped (mut_ref_to (0 ∷ []) tt (plain (λ _. Cs E S))) no, (stay_dropped (plain (λ _. Bs E)) no, (stay_dropped (plain (λ _. usize)) no, tt)))

  abbrev Asks : (Cs E S).Denot → (Bs E).Denot → (usize).Denot → Type 0
  Asks d base index = (base.ptr ≡ d.at) × IsFilled d.cells index

  abbrev Gives0 : (Cs E S).Denot → (Bs E).Denot → (usize).Denot → MutBor (el_x E) → Type 0
  Gives0 d base index r = get_or d.cells index Empty ≡ Filled r.now

  abbrev spec : {M : Type 1} {𝓤 : Ura M} (𝓛 : Logic 𝓤) → Clauses 𝓤 ended
  spec {𝓤 = 𝓤} 𝓛 κs a = record { ghost = Unit {0}; requires = λ _. fact 𝓤 (Asks a.0.now a.1.0 a.1.1.0); ensures = λ _ r w. sep 𝓤 (sem 𝓛 (follows (Cs E S) (R E) a.0.ghost_name r.ghost_name (λ w. with_cells a.0.now (set a.0.now.cells a.1.1.0 (Filled w))))) (fact 𝓤 (Gives0 a.0.now a.1.0 a.1.1.0 r)) }

module _ (E : El) (S : RattleType) {M : Type 1} {𝓤 : Ura M} (𝓛 : Logic 𝓤) (C : Calls 𝓤 𝓛.H) (Λ : Loops 𝓤 𝓛.H) (κ : Lft) (q : Share) (self : MutBor (Cs E S).Denot) (base : (Bs E).Denot) (index : (usize).Denot) (us0 us1 us2 : List Val) where
  open 𝓛 use {H, A}

  abbrev rb : ℕ
  rb = self.ref_ptr.0

  abbrev ro : ℕ
  ro = self.ref_ptr.1

  abbrev γ : GName
  γ = self.ghost_name

  abbrev d : (Cs E S).Denot
  d = self.now

  abbrev bound : (walk_of 𝓛 (ended E S) (stayed E S) (spec E S 𝓛)).Ghost
  bound = (((κ, tt), (q, tt), tt, (self, (base, (index, tt))), (us0, (us1, (us2, tt)))), tt)

  abbrev Post : Val → SProp 𝓤
  Post = (walk_of 𝓛 (ended E S) (stayed E S) (spec E S 𝓛)).post bound

  abbrev new : el_x E → (Cs E S).Denot
  new w = with_cell E S d index (Filled w)

  module _ (vs : List Val) (b o : ℕ) where
    -- all but the value
    abbrev Rest : Fml
    Rest = fsep (Besides E (st S) 𝓛 b o d.cells index) (fsep ((Mark_of (R E) (param 1 S)).own_val (tt, tt) vs) (cell_at full_share (Cs E S).mir vs rb ro))

    back : d.at ≡ block_ptr b o → index < length d.cells → length d.cells * st S < 2 ^ 63 → 0 < sz E
        → (w : el_x E) → ent 𝓤 (sep 𝓤 (sem 𝓛 ((mem (R E)).own_at w b (index * st S + o))) (sem 𝓛 Rest)) (sem 𝓛 ((mem (Cs E S)).own_at (new w) rb ro))
    unfolding part_of
    back e within small sized w =
        qed 𝓛 (‵ (cell (R E) b (index * st S + o) (Filled w)) ∷ ‵ Rest ∷ []) ∵ move ! (1 ∷ []) $ fsplit3 ! $ move ! (3 ∷ 0 ∷ []) $
        use3 𝓛 (‵ ((Cs E S).own_val (new w) vs)) (column_made E S 𝓛 d vs index (Filled w) b o within e sized small) $ move ! (1 ∷ 0 ∷ []) $ fjoin ! $
        fpack ! (List Val) (λ us. fsep (cell_at full_share (Cs E S).mir us rb ro) ((Cs E S).own_val (new w) us)) vs $ done !

  exits : (v : Val) (r : MutBor (el_x E)) → Gives0 E S d base index r
      → ent 𝓤 (sep 𝓤 (sem 𝓛 ((MutRef (named 0) κ (R E)).own_val r (v ∷ []))) (sep 𝓤 (A.lft κ q) (sem 𝓛 (follows (Cs E S) (R E) γ r.ghost_name new)))) (Post v)
  exits v r e =
      qed 𝓛 (‵ ((MutRef (named 0) κ (R E)).own_val r (v ∷ [])) ∷ ‵ (flft κ q) ∷ ‵ (follows (Cs E S) (R E) γ r.ghost_name new) ∷ []) ∵
      suffices ! _ (ends_at 𝓛 (ended E S) (stayed E S) (spec E S 𝓛) bound v r (tt, (tt, (tt, tt))) (tt, (tt, (tt, tt)))) $
      nothing ! $ nothing ! $ fjoin ! $ nothing ! $ fjoin ! $ nothing ! $ fjoin ! $ join ! $ nothing ! $ move ! (2 ∷ 0 ∷ []) $ join ! $ join ! $ frame ! $ says ! e $ done !

  walk : Asks E S d base index → index < 2 ^ 64 → ent 𝓤 (⋆ 𝓛 (Had E S 𝓤 κ q self)) (WpFn 𝓤 H C Λ (function E S) (vptr rb ro ∷ word base.ptr ∷ vint w64 index ∷ []) Post)
  walk asked fits_index =
      let x = asked.1.0 in let within = filled_within d.cells index x asked.1.1 in let code = (Cs E S).coded.code d in
      qed 𝓛 (Had E S 𝓤 κ q self) ∵ enter ! C Λ (function E S) (vptr rb ro ∷ word base.ptr ∷ vint w64 index ∷ []) _ $ alloc_all ! (λ l. pass_all ! refl ((tt, tt), (word-Good [] base.ptr, ((tt, record { fits = fits_index }), tt))) $
      let En : Env 𝓤 H = env (function E S).locals l in
      opens ! tt (Cs E S) {h = d} rb ro (λ vs. move ! (1 ∷ []) $ cell_taken E S ! d vs index (Filled x) within asked.1.1 (λ b o e sized small.
      let s = st S in let fit = spans (length d.cells) index s within small in
      take_at ! 2 $ rewrite ! 0 (λ (p : Ptr). ‵ (fat full_share (layout (Bs E)) (l 2) 0 (word p))) (asked.0 ∙ e) refl $ give_at ! 2 $ first ! $ blocks ! $
      sets ! (of_opd ! (get_in ! (fld ! refl (stop !)) (sub ! 0 refl (whole !)))) refl (tt, tt) $
      sets ! (bin ! (get ! refl) (size_lit ! (record { fits = fit.0 })) (record { fits = fit.1 })) refl (tt, record { fits = fit.1 }) $
      sets ! (bin ! (get ! refl) (get ! refl) tt) refl (tt, tt) $
      sets ! (of_opd ! (get ! refl)) refl (tt, tt) $
      let way = back vs b o e within small sized in let at = index * s + o in
      sets_last ! (addr ! (through ! refl (stop !))) refl (tt, tt) $ exec ! C Λ En (after 1 (function E S).body) (at_ret En Post) $ sets ! (of_opd ! (get ! refl)) refl (tt, tt) $
      move ! (1 ∷ 2 ∷ 3 ∷ []) $ fjoin3 ! $ move ! (2 ∷ 3 ∷ 4 ∷ 1 ∷ 0 ∷ []) $ group ! 5 $
      use1 𝓛 (later (some (λ (δ : GName). raw (Part 𝓛 (Cs E S) (R E) new (named 0) κ q rb ro b at γ (sem 𝓛 (Rest vs b o)) way x δ))))
      (lends_Part 𝓛 (Cs E S) (R E) new (named 0) κ q rb ro b at γ (sem 𝓛 (Rest vs b o)) way code code x) $ await ! tt $ pick ! (λ δ.
      returns ! (look_at ! 0 refl) $ free_all ! refl $ keep ! (0 ∷ []) $ by ! (exits (vptr b at) (record { ref_ptr = (b, at); ghost_name = δ; now = x }) asked.1.1)))))

meets : (E : El) (S : RattleType) {M : Type 1} {𝓤 : Ura M} (𝓛 : Logic 𝓤) (𝓣 : Tables 𝓤 𝓛.H)
    → Meets 𝓛 (ended E S).signature (WpFn 𝓤 𝓛.H 𝓣.C 𝓣.Λ (function E S)) (closing 𝓛 (ended E S) (spec E S 𝓛))
meets E S {𝓤 = 𝓤} 𝓛 𝓣 =
    walk_Meets 𝓛 (ended E S) (stayed E S) (Goes-spent_ref 𝓛 1 (0 ∷ []) tt (plain (λ _. Cs E S)), (Goes-dropped 𝓛 1 (plain (λ _. Bs E)) no (λ κs x f. refl), (Goes-dropped 𝓛 1 (plain (λ _. usize)) no (λ κs x f. refl), tt))) (spec E S 𝓛) (WpFn 𝓤 𝓛.H 𝓣.C 𝓣.Λ (function E S)) (WpFn-mono 𝓤 𝓛.H 𝓛.laws 𝓣 (function E S))
    (λ z. let κ : Lft = z.0.0.0 in let q : Share = z.0.1.0 in let self : MutBor (Cs E S).Denot = z.0.3.0 in let base : (Bs E).Denot = z.0.3.1.0 in let index : ℕ = z.0.3.1.1.0 in
    let us0 : List Val = z.0.4.0 in let us1 : List Val = z.0.4.1.0 in let us2 : List Val = z.0.4.1.1.0 in
    needs 𝓤 (Asks E S self.now base index) _ (λ asked.
    enters_with E S 𝓛 [] κ q self base index tt us0 us1 us2 tt [] (λ vs. WpFn 𝓤 𝓛.H 𝓣.C 𝓣.Λ (function E S) vs (Post E S 𝓛 𝓣.C 𝓣.Λ κ q self base index us0 us1 us2)) (λ passed fits.
    qed 𝓛 (‵ ftrue ∷ Had E S 𝓤 κ q self) ∵ drop ! $ by ! (walk E S 𝓛 𝓣.C 𝓣.Λ κ q self base index us0 us1 us2 asked fits))))

pub get_mut_spec : {M : Type 1} → stated.statement M
unfolding tables_of
get_mut_spec 𝓤 𝓛 𝓜 𝓡 wired X S LX LS y =
    let E : El = record { row = X; laws = LX } in
    let 𝓣 : Tables 𝓤 𝓛.H = around 𝓛 𝓜 𝓡 in
    method_meets 𝓛 𝓜 𝓡 (ended E S) (spec E S 𝓛) (#self (args2 E S)) (function E S) (X.lives, (S.lives, tt)) (code.unfolded 𝓤 𝓛.H 𝓜 𝓡 wired (X, (S, tt)))
    (meets E S 𝓛 𝓣) ((y.0.0, y.0.1, tt, y.0.3, y.0.4), y.1)
