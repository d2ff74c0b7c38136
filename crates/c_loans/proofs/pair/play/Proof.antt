-- `play` takes the player out of its box, calls at the meet of its lifetimes, and puts it back.
use mathlib.Core.Path.{◌≡◌, refl, sym, ap, subst}
use mathlib.Core.Bool.{Bool, true, false, ◌&&◌}
use lib.Dec.{T}
use Rattle.std.proofs.Common.{ℕ, ℤ, ◌<◌, ◌^◌, zero, suc, length, arith, MutBor, Bor}
use mathlib.Core.List.{List, [], ◌∷◌, ◌++◌}
use seplogic.Ra.Ura.{Ura}
use mir.Syntax.{named, w8}
use mir.Val.{Val, vint, vptr, vstruct, vcons, vnil, has_ty}
use base.Logic.{SProp, ent, ex_e, snd∗, wand, apply∗, id⊢}
use base.Fraction.{full_share}
use base.Share
use base.Fml.{Lft, Share, ftrue, fsep, flft, flent}
use prog.Memory.{Memory}
use prog.Routine.{Routine}
use prog.Wp.{WpFn, Tables}
use types.Logic.{Logic, sem}
use contract.BorrowLft.{◌⊑◌, ⊑_meet, ⊑_static, meet_⊑_left, meet_⊑_right}
use contract.Lifetimes.{Lfts}
use contract.Monad.{Fun, fact}
use contract.Running.{tables, tables_of}
use sound.WpLaws.{fm_of, WpFn-mono}
use types.Kit.{Item, ‵, raw, ◌⊛◌, some, later, ◌$◌, ◌∵◌, !, qed, by, move, drop, use1, use2, join, split, fsplit, fjoin, fpick, fpack, feq_i, pick, at_ret, suffices, await, done}
use types.Tokens.{lft_new, lft_end, lent_back}
use types.Part.{whole, sub, agg}
use types.Run.{stop, fld, first, blocks, exec, addr, no_more, and_then, of_opd, returns, enter}
use types.ByLocal.{env, through, alloc_all, pass_all, free_all, look_at, get, get_in, sets, sets_last, lands_as}
use denote.Builtin.{u8, i32}
use denote.Exit.{yes}
use denote.Laws.{Is, shows}
use denote.Lend.{lends_shr}
use denote.Memory.{part_at}
use denote.Plain.{uint_Makes}
use denote.RattleType.{RattleType, Valss}
use denote.RawPtr.{Ptr, block_ptr}
use denote.Ref.{ShrRef, MutRef, mut_vals, mut_Tells}
use denote.Signature.{plain, type_at}
use denote.Steps.{nothing, owned, heard, facts, peeks, only}
use denote.Struct.Declared as struct
use denote.Struct.Struct.{within}
use denote.Sub.{sub_shr}
use denote.Triple.Call.{calls_at}
use denote.Triple.Clauses.{ensured, lasts, Lasts}
use denote.Triple.Entry.{on_entry, Args}
use denote.Triple.Statement.{Contract, Triple}
use denote.Triple.Spec.{triple_of}
use denote.Triple.Table.{entered}
use types.Kit.{feq_l}
use types.Run.{hop, from as start}
use types.ByLocal.{look_in_at}
use denote.Builtin.{i16}
use denote.Slice.{MutSlice, mut_slice_vals, mut_slice_Tells}
use denote.Triple.Walked.{says, needs, Stays, stay_dropped, gave_slice, walk_of, ends_at, Goes-dropped, Goes-gave_slice, walk_Meets}
use Rattle.std.specs.Box.Ownership.{box_owns}
use Rattle.std.specs.Global.{Global}
use mir.Raw.{raw as bare}
use Rattle.std.proofs.alloc.Calls.{token}
use Rattle.std_alloc.proofs.BoxSteps.Form.{D, B, τ, word, box_typed, handle}
use Rattle.std_alloc.proofs.BoxSteps.Steps.{box_out, box_in}
use Rattle.std_heap.specs.contracts.Global as Heap
use Rattle.std_heap.specs.contracts.GlobalAllocator.TheImpl.{ghosts}
use Rattle.bank_core.specs.contracts.bank.Bank as BankRow
use Rattle.bank_core.proofs.bank.Bank.TheLaws as bank_laws
use Rattle.mixer.specs.contracts.player.Player as PlayerRow
use Rattle.c_loans.proofs.AsBox.{EB, EP}
use Rattle.c_loans.proofs.BoxShorter.{box_shorter}
use Rattle.c_loans.proofs.BankShorter.{bank as bank_sub}
use Rattle.c_loans.proofs.PlayerShorter.{player as player_sub}
use Rattle.bank_parts.specs.declared.parts.Parts.{Parts}
use Rattle.mixer.specs.declared.playing.PlayingVoice.{PlayingVoice}
use Rattle.c_loans.specs.declared.pair.Call.{Call}
use Rattle.c_loans.specs.contracts.pair.Call as CallRow
use Rattle.c_loans.proofs.Tokens.{meet_token}
use Rattle.c_loans.specs.Owned.{at_lft, atoms, level, toks_owned}
use Rattle.c_loans.specs.Starts.{IsPlayed}
use Rattle.c_loans.specs.contracts.parts.Parts as PartsRow
use Rattle.c_loans.specs.contracts.pair.BankPtr as BankPtr
use Rattle.c_loans.specs.contracts.pair.PlayerPtr as PlayerPtr
use Rattle.c_loans.specs.contracts.pair.Pair as Pair
use Rattle.c_loans.specs.contracts.pair.play_parts as of
use Rattle.c_loans.proofs.pair.play_parts.Symbol.{name as #of}
use Rattle.c_loans.proofs.pair.play_parts.Met as of_thm
use Rattle.c_loans.specs.contracts.pair.play as F
use Rattle.c_loans.specs.contracts.pair.play.Key.{name as #self}
use Rattle.c_loans.proofs.pair.play.Statement as stated
use Rattle.c_loans.proofs.pair.play.Code as code

abbrev stayed : Stays (F.ended).signature.params (F.ended).kept
stayed = (stay_dropped (plain (λ _. PlayerPtr.the_row)) yes, (gave_slice (0 ∷ []) tt (plain (λ _. i16)), tt))

abbrev PR : Lft → RattleType
PR κ = PartsRow.the_row (PlayerRow.the_row (at_lft κ)) Heap.the_row ghosts

module _ {M : Type 1} {𝓤 : Ura M} (𝓛 : Logic 𝓤) (at_mem : Memory → SProp 𝓤) (run : Routine → Fun 𝓤) (𝓣 : Tables 𝓤 𝓛.H) where
  open 𝓛 use {H, A}

  abbrev Of : Contract 𝓤
  Of = triple_of 𝓛 of.signature (of.spec 𝓛 at_mem run)

  abbrev W : Contract 𝓤
  W = walk_of 𝓛 F.ended stayed (F.clauses 𝓛 at_mem run)

  module _ (κ₀ : Lft) (q₀ : Share) (p : Ptr) (pa : Global) (toks : List (ℕ × ℕ)) (out : MutBor (List ℤ)) where
    abbrev player : List (List PlayingVoice) → (PlayerPtr.the_row).Denot
    player held = record { at = p; alloc = pa; held = held; toks = toks }

    abbrev bound : List (List PlayingVoice) → List Val → List Val → W.Ghost
    bound ph us ss = (((κ₀, tt), (q₀, tt), tt, (player ph, (out, tt)), (us, (ss, tt))), tt)

    abbrev Had : List (List PlayingVoice) → List Val → List Val → SProp 𝓤
    Had ph us ss = on_entry 𝓛 F.signature (κ₀, tt) (q₀, tt) (player ph, (out, tt)) (us, (ss, tt))

    abbrev Runs : List (List PlayingVoice) → List Val → List Val → SProp 𝓤
    Runs ph us ss = WpFn 𝓤 H 𝓣.C 𝓣.Λ code.function (us ++ (ss ++ [])) (W.post (bound ph us ss))

    module _ (known : Triple 𝓤 (𝓣.C #of) Of) where
      walk : (ph : List (List PlayingVoice)) (us ss : List Val) → length ph ≡ 1 → ent 𝓤 (Had ph us ss) (Runs ph us ss)
      walk [] us ss one = absurd (omega (arith, one))
      walk (x ∷ y ∷ rest) us ss one = absurd (omega (arith, one))
      walk (x ∷ []) us ss one =
          let Post = W.post (bound (x ∷ []) us ss) in
          let Rs = MutSlice (named 0) κ₀ i16 in
          let κ : Lft = atoms toks in
          qed 𝓛 (((‵ (flft κ₀ q₀) ⊛ ‵ ftrue) ⊛ ‵ (fsep ((PlayerPtr.the_row).own_val (player (x ∷ [])) us) (fsep (Rs.own_val out ss) ftrue))) ∷ []) ∵ split ! $
          move ! (1 ∷ []) $ fsplit ! $ move ! (1 ∷ []) $ fsplit ! $ peeks ! Rs (Is Rs) (shows 𝓛 Rs) out ss (λ iss.
          let es : ss ≡ mut_slice_vals out = mut_slice_Tells (named 0) κ₀ i16 out ss iss in
          let count : length out.now < 2 ^ 64 = iss.0.1.0 in
          -- [the slice; true; the player; the tokens]
          move ! (2 ∷ []) $ fsplit ! $ move ! (1 ∷ []) $ fsplit ! $ move ! (2 ∷ 1 ∷ []) $ fjoin ! $
          let v : D (EP κ) = record { ptr = p; alloc = pa; value = x } in
          let made : (PR κ).Denot = record { ptr = p; alloc = pa; value = x } in
          use1 𝓛 (‵ ((B (EP κ)).own_val v us)) (id⊢ 𝓤 _) $ box_out (EP κ) ! v us (λ b o hv e ws fa. box_in (EP κ) ! v b o v.value e refl $ use1 𝓛 (‵ ((PR κ).own_val made (word (EP κ) hv b o ∷ []))) (id⊢ 𝓤 _) $
          let w = word (EP κ) hv b o in
          let T₀ : Item 𝓤 = ‵ (flft κ₀ q₀) ⊛ ‵ ftrue in
          let Γ : List Val → List (Item 𝓤) = λ ss. ‵ ((PR κ).own_val made (w ∷ [])) ∷ ‵ (toks_owned toks) ∷ ‵ (Rs.own_val out ss) ∷ ‵ ftrue ∷ T₀ ∷ [] in
          by ! (subst (λ (z : List Val × List Val). ent 𝓤 (types.Kit.⋆ 𝓛 (Γ z.1)) (WpFn 𝓤 H 𝓣.C 𝓣.Λ code.function (z.0 ++ (z.1 ++ [])) Post)) (λ i. (sym ws i, sym es i))
          (qed 𝓛 (Γ (mut_slice_vals out)) ∵ enter ! 𝓣.C 𝓣.Λ code.function (w ∷ mut_slice_vals out) _ $ alloc_all ! (λ ls. pass_all ! refl (box_typed (EP κ) hv b o fa, ((tt, (tt, (record { fits = count }, tt))), tt)) $
          sets ! (of_opd ! (get_in ! (fld ! refl (stop !)) (sub ! 0 refl (whole !)))) refl (tt, tt) $ sets ! (of_opd ! (get_in ! (fld ! refl (stop !)) (sub ! 1 refl (whole !)))) refl fa $
          sets ! (agg ! (and_then ! (get ! refl) (and_then ! (get ! refl) (no_more !)))) refl (box_typed (EP κ) hv b o fa) $
          sets ! (addr ! (start ! (fld ! refl (hop ! (look_in_at ! 2 (sub ! 0 refl (whole !))) (stop !))))) refl (tt, tt) $
          sets ! (agg ! (and_then ! (get ! refl) (and_then ! (get_in ! (fld ! refl (stop !)) (sub ! 1 refl (whole !))) (no_more !)))) refl (tt, (tt, (record { fits = count }, tt))) $
          -- play_parts(..): [the player; its tokens; the slice; true; T₀]
          move ! (1 ∷ []) $ use1 𝓛 (some (λ (q : Share). ‵ (flft κ q) ⊛ raw (wand 𝓤 (A.lft κ q) (sem 𝓛 (toks_owned toks))))) (meet_token 𝓛 toks) $ pick ! (λ q. split ! $
          let κs : Lfts 2 = (κ, (κ₀, tt)) in
          let passed : Args of.signature κs = (made, (out, tt)) in
          let y : Of.Ghost = ((κs, (q, (q₀, tt)), tt, passed, (w ∷ [], (mut_slice_vals out, tt))), tt) in
          -- [the meet's token; what gives the shares back; the player; the slice; true; T₀]
          move ! (3 ∷ 4 ∷ []) $ fjoin ! $ move ! (3 ∷ 0 ∷ []) $ fjoin ! $ move ! (1 ∷ 3 ∷ []) $ join ! $ join ! $ nothing ! $ move ! (1 ∷ 0 ∷ []) $ join ! $ use1 𝓛 (raw (Of.pre y)) (id⊢ 𝓤 _) $
          calls_at ! (fm_of 𝓤 H 𝓛.laws 𝓣) Of known y (and_then ! (get ! refl) (and_then ! (get ! refl) (no_more !))) (λ u.
          use1 𝓛 (later (some (λ (r : (PR κ).Denot). ((‵ (flft κ q) ⊛ T₀) ⊛ ‵ ((PR κ).own_val r (u ∷ []))) ⊛ raw (ensured 𝓛 of.ended (of.clauses 𝓛 at_mem run) κs passed tt r)))) (id⊢ 𝓤 _) $ await ! tt $ pick ! (λ r.
          split ! $ move ! (1 ∷ []) $ use1 𝓛 (some (λ (fin : Lasts of.ended κs passed). ‵ (lasts of.ended κs passed fin) ⊛ raw (fact 𝓤 (IsPlayed x out.now r.value fin.1.0)))) (id⊢ 𝓤 _) $
          pick ! (λ fin. split ! $ move ! (1 ∷ []) $ heard ! (IsPlayed x out.now r.value fin.1.0) (λ played.
          fsplit ! $ drop ! $ fsplit ! $ move ! (1 ∷ []) $ drop ! $ fsplit ! $ fsplit ! $ move ! (1 ∷ []) $ feq_l ! (λ el. fjoin ! $
          -- [the slice's end; the tokens, with the parts; what gives the shares back]
          move ! (1 ∷ []) $ split ! $ split ! $ move ! (0 ∷ 4 ∷ []) $ use2 𝓛 (‵ (toks_owned toks)) (apply∗ 𝓤 (A.lft κ q) (sem 𝓛 (toks_owned toks))) $
          -- [the player's tokens; T₀; the parts; the slice's end]
          let d : D (EP κ) = record { ptr = r.ptr; alloc = r.alloc; value = r.value } in
          let back : (PlayerPtr.the_row).Denot = record { at = r.ptr; alloc = r.alloc; held = r.value ∷ []; toks = toks } in
          move ! (2 ∷ []) $ use1 𝓛 (‵ ((B (EP κ)).own_val d (u ∷ []))) (id⊢ 𝓤 _) $ box_out (EP κ) ! d (u ∷ []) (λ b' o' hw e' wu fw.
          let wp = word (EP κ) hw b' o' in
          lands_as ! (ap only wu) refl (box_typed (EP κ) hw b' o' fw) $
          sets ! (of_opd ! (get_in ! (fld ! refl (stop !)) (sub ! 0 refl (whole !)))) refl (tt, tt) $ sets ! (of_opd ! (get_in ! (fld ! refl (stop !)) (sub ! 1 refl (whole !)))) refl fw $
          sets ! (agg ! (and_then ! (get ! refl) (and_then ! (get ! refl) (no_more !)))) refl (box_typed (EP κ) hw b' o' fw) $ returns ! (look_at ! 0 refl) $ free_all ! refl $
          box_in (EP κ) ! d b' o' r.value e' refl $ fsplit ! $ move ! (2 ∷ 1 ∷ []) $ fjoin ! $ move ! (1 ∷ 0 ∷ []) $ fjoin ! $ use1 𝓛 (‵ ((PlayerPtr.the_row).own_val back (wp ∷ []))) (id⊢ 𝓤 _) $
          suffices ! _ (ends_at 𝓛 F.ended stayed (F.clauses 𝓛 at_mem run) (bound (x ∷ []) us ss) wp back (tt, (fin.1.0, tt)) (tt, (el, tt))) $
          says ! (refl, refl, played) $
          nothing ! $ move ! (3 ∷ 0 ∷ []) $ fjoin ! $ nothing ! $ fjoin ! $ join ! $ move ! (1 ∷ 0 ∷ []) $ join ! $ done !))))))))))))

pub play_spec : {M : Type 1} → stated.statement M
unfolding tables_of
play_spec 𝓤 𝓛 𝓜 𝓡 wired =
    let 𝓣 : Tables 𝓤 𝓛.H = tables_of 𝓤 𝓛.H 𝓜 (tables 𝓤 𝓛.H 𝓜 𝓡 𝓡.env) in
    let known = of_thm.met 𝓤 𝓛 𝓜 𝓡 (code.calls-c_loans::pair::play_parts 𝓡.env wired) in
    entered 𝓤 𝓛.H (triple_of 𝓛 F.signature (F.spec 𝓛 𝓜.mem 𝓡.returns)) 𝓣.C 𝓣.Λ #self code.function (code.unfolded 𝓤 𝓛.H 𝓜 𝓡 wired)
    (walk_Meets 𝓛 F.ended stayed (Goes-dropped 𝓛 1 (plain (λ _. PlayerPtr.the_row)) yes (λ κs x f. refl), (Goes-gave_slice 𝓛 1 0 tt (plain (λ _. i16)), tt)) (F.clauses 𝓛 𝓜.mem 𝓡.returns) (WpFn 𝓤 𝓛.H 𝓣.C 𝓣.Λ code.function) (WpFn-mono 𝓤 𝓛.H 𝓛.laws 𝓣 code.function)
    (λ z. let d = z.0.3.0 in let vs = z.0.4 in needs 𝓤 (length d.held ≡ 1) (Had 𝓛 𝓜.mem 𝓡.returns 𝓣 z.0.0.0 z.0.1.0 d.at d.alloc d.toks z.0.3.1.0 d.held vs.0 vs.1.0)
    (walk 𝓛 𝓜.mem 𝓡.returns 𝓣 z.0.0.0 z.0.1.0 d.at d.alloc d.toks z.0.3.1.0 known d.held vs.0 vs.1.0)))
