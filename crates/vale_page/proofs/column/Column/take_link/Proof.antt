-- `take_link` reads a place's number, and the place is empty. Assumes `Logic`.
use mathlib.Core.Path.{◌≡◌, refl, ◌∙◌}
use Prim.Native.Nat.{ℕ, ◌+◌, ◌*◌, ◌<◌, ◌^◌}
use mathlib.Core.List.{List, [], ◌∷◌}
use seplogic.Ra.Ura.{Ura}
use base.Fraction.{full_share}
use mir.Syntax.{Fn, w8, w64, ty_int}
use mir.MapTy.{inst_fn}
use mir.Val.{Val, vptr, vint}
use base.Logic.{SProp, ent, apply∗}
use base.Fml.{Lft, Share, fat, froom}
use prog.Wp.{Env, Calls, Loops, WpFn, Tables}
use types.Logic.{Logic, sem}
use contract.Running.{tables_of}
use types.Kit.{use3, ⋆, ‵, at_ret, ◌$◌, ◌∵◌, !, qed, by, move, keep, use1, use2, rewrite, fsplit}
use types.Part.{whole, sub}
use types.Run.{look, stop, fld, load, of_opd, first, blocks, exec, returns, enter, well_typed}
use types.ByLocal.{alloc_all, pass_all, free_all, look_at, get, get_in, through, sets, sets_last, env}
use denote.RattleType.{RattleType}
use denote.Param.{layout}
use denote.RawPtr.{Ptr}
use denote.Ref.{MutBor}
use denote.Steps.{owned, opens, closes}
use denote.Plain.{uint_Makes}
use Rattle.std.proofs.VecSteps.Shapes.{after}
use Rattle.std.proofs.RcSteps.{word, word-Good}
use lib.ListN.{length}
use types.Run.{bin, size_lit}
use types.ByLocal.{take_at, give_at}
use denote.Builtin.{u8, usize}
use Rattle.vale_page.specs.Cell.{Empty, Link}
use Rattle.vale_page.proofs.Memory.{args2, st, Cs}
use Rattle.std.proofs.mem.Param.{El, R}
use Rattle.vale_page.specs.Ownership.{room, cell}
use Rattle.vale_page.proofs.Memory.{Bs, link_within}
use Rattle.vale_page.proofs.ColumnWalks.{spans, around, method_meets, Had, cell_taken, with_cell, column_made, CanTake, takes, taking, Taken, take_ends, take_meets}
use Rattle.vale_page.specs.contracts.column.Column.take_link.Key.{name as #self}
use Rattle.vale_page.proofs.column.Column.take_link.Statement as stated
use Rattle.vale_page.proofs.column.Column.take_link.Code as code

module _ (E : El) (S : RattleType) where
  abbrev function : Fn
  function = inst_fn (args2 E S) code.function

module _ (E : El) (S : RattleType) {M : Type 1} {𝓤 : Ura M} (𝓛 : Logic 𝓤) (C : Calls 𝓤 𝓛.H) (Λ : Loops 𝓤 𝓛.H) (κ : Lft) (q : Share) (self : MutBor (Cs E S).Denot) (base : (Bs E).Denot) (index : (usize).Denot) (us0 us1 us2 : List Val) where
  open 𝓛 use {H}

  abbrev rb : ℕ
  rb = self.ref_ptr.0

  abbrev ro : ℕ
  ro = self.ref_ptr.1

  abbrev d : (Cs E S).Denot
  d = self.now

  abbrev Post : Val → SProp 𝓤
  Post = Taken E S u8 Link 𝓛 κ q self base index us0 us1 us2

  walk : us0 ≡ vptr rb ro ∷ [] → CanTake E S u8 Link d base index → index < 2 ^ 64 → ent 𝓤 (⋆ 𝓛 (Had E S 𝓤 κ q self)) (WpFn 𝓤 H C Λ (function E S) (vptr rb ro ∷ word base.ptr ∷ vint w64 index ∷ []) Post)
  walk passed asked fits_index =
      let n = asked.1.0 in let within = link_within d.cells index n asked.1.1 in
      let new : (Cs E S).Denot = with_cell E S d index Empty in
      qed 𝓛 (Had E S 𝓤 κ q self) ∵ enter ! C Λ (function E S) (vptr rb ro ∷ word base.ptr ∷ vint w64 index ∷ []) _ $ alloc_all ! (λ l. pass_all ! refl ((tt, tt), (word-Good [] base.ptr, ((tt, record { fits = fits_index }), tt))) $
      let En : Env 𝓤 H = env (function E S).locals l in
      opens ! tt (Cs E S) {h = d} rb ro (λ vs. move ! (1 ∷ []) $ cell_taken E S ! d vs index (Link n) within asked.1.1 (λ b o e sized small.
      let s = st S in let fit = spans (length d.cells) index s within small in
      take_at ! 2 $ rewrite ! 0 (λ (p : Ptr). ‵ (fat full_share (layout (Bs E)) (l 2) 0 (word p))) (asked.0 ∙ e) refl $ give_at ! 2 $ first ! $ blocks ! $
      sets ! (of_opd ! (get_in ! (fld ! refl (stop !)) (sub ! 0 refl (whole !)))) refl (tt, tt) $
      sets ! (bin ! (get ! refl) (size_lit ! (record { fits = fit.0 })) (record { fits = fit.1 })) refl (tt, record { fits = fit.1 }) $
      sets ! (bin ! (get ! refl) (get ! refl) tt) refl (tt, tt) $
      fsplit ! $ well_typed ! (λ good.
      sets_last ! (of_opd ! (load ! (through ! refl (stop !)) (look ! 0 refl))) refl good $
      exec ! C Λ En (after 1 (function E S).body) (at_ret En Post) $ sets ! (of_opd ! (get ! refl)) refl good $
      use1 𝓛 (‵ (froom (ty_int w8) b (index * s + o))) (𝓛.laws.at_room (ty_int w8) b (index * s + o) (vint w8 n)) $
      use2 𝓛 (‵ (cell (R E) b (index * s + o) Empty)) (apply∗ 𝓤 (H.room (ty_int w8) b (index * s + o)) (sem 𝓛 (room (R E) b (index * s + o)))) $
      use3 𝓛 (‵ ((Cs E S).own_val new vs)) (column_made E S 𝓛 d vs index Empty b o within e sized small) $ move ! (1 ∷ 0 ∷ []) $ closes ! tt (Cs E S) new vs rb ro $
      returns ! (look_at ! 0 refl) $ free_all ! refl $ keep ! (0 ∷ 1 ∷ 2 ∷ []) $ owned ! u8 _ (uint_Makes 𝓛 w8) n _ (refl, good.1.fits) $
      by ! (take_ends E S u8 Link 𝓛 κ q self base index us0 us1 us2 passed n (vint w8 n) new asked.1.1 (refl, refl))))))

pub take_link_spec : {M : Type 1} → stated.statement M
unfolding tables_of
take_link_spec 𝓤 𝓛 𝓜 𝓡 wired X S LX LS y =
    let E : El = record { row = X; laws = LX } in
    let 𝓣 : Tables 𝓤 𝓛.H = around 𝓛 𝓜 𝓡 in
    method_meets 𝓛 𝓜 𝓡 (taking E S u8 Link) (takes E S u8 Link 𝓛) (#self (args2 E S)) (function E S) (X.lives, (S.lives, tt)) (code.unfolded 𝓤 𝓛.H 𝓜 𝓡 wired (X, (S, tt)))
    (take_meets E S u8 Link 𝓛 𝓣 (function E S) (walk E S 𝓛 𝓣.C 𝓣.Λ)) ((y.0.0, y.0.1, tt, y.0.3, y.0.4), y.1)
