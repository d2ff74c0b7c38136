-- `start` takes the player and the bank out of their boxes, has the player at the meet of its lifetimes with the bank's, borrows the bank for the call, and calls at the meet.
use mathlib.Core.Path.{◌≡◌, refl, sym, ap, subst}
use mathlib.Core.Bool.{Bool, true, false, ◌&&◌}
use lib.Dec.{T}
use Rattle.std.proofs.Common.{ℕ, ℤ, ◌<◌, ◌^◌, zero, suc, length, arith, MutBor, Bor}
use mathlib.Core.List.{List, [], ◌∷◌, ◌++◌}
use seplogic.Ra.Ura.{Ura}
use mir.Syntax.{named, w8}
use mir.Val.{Val, vint, vptr, vstruct, vcons, vnil, has_ty}
use base.Logic.{SProp, ent, ex_e, snd∗, wand, apply∗, id⊢}
use base.Fraction.{full_share}
use base.Share
use base.Fml.{Lft, Share, ftrue, fsep, flft, flent}
use prog.Memory.{Memory}
use prog.Routine.{Routine}
use prog.Wp.{WpFn, Tables}
use types.Logic.{Logic, sem}
use contract.BorrowLft.{◌⊑◌, ⊑_meet, ⊑_static, meet_⊑_left, meet_⊑_right}
use contract.Lifetimes.{Lfts}
use contract.Monad.{Fun, fact}
use contract.Running.{tables, tables_of}
use sound.WpLaws.{fm_of, WpFn-mono}
use types.Kit.{Item, ‵, raw, ◌⊛◌, some, later, ◌$◌, ◌∵◌, !, qed, by, move, drop, use1, use2, join, split, fsplit, fjoin, fpick, fpack, feq_i, pick, at_ret, suffices, await, done}
use types.Tokens.{lft_new, lft_end, lent_back}
use types.Part.{whole, sub, agg}
use types.Run.{stop, fld, first, blocks, exec, addr, no_more, and_then, of_opd, returns, enter}
use types.ByLocal.{env, through, alloc_all, pass_all, free_all, look_at, get, get_in, sets, sets_last, lands_as}
use denote.Builtin.{u8, i32}
use denote.Exit.{yes}
use denote.Laws.{Is, shows}
use denote.Lend.{lends_shr}
use denote.Memory.{part_at}
use denote.Plain.{uint_Makes}
use denote.RattleType.{RattleType, Valss}
use denote.RawPtr.{Ptr, block_ptr}
use denote.Ref.{ShrRef, MutRef, mut_vals, mut_Tells}
use denote.Signature.{plain, type_at}
use denote.Steps.{nothing, owned, heard, facts, peeks, only}
use denote.Struct.Declared as struct
use denote.Struct.Struct.{within}
use denote.Sub.{sub_shr}
use denote.Triple.Call.{calls_at}
use denote.Triple.Clauses.{ensured, lasts, Lasts}
use denote.Triple.Entry.{on_entry, Args}
use denote.Triple.Statement.{Contract, Triple}
use denote.Triple.Spec.{triple_of}
use denote.Triple.Table.{entered}
use denote.Triple.Walked.{says, needs, Stays, stay_dropped, gave_ref, walk_of, ends_at, Goes-dropped, Goes-gave_ref, walk_Meets}
use Rattle.std.specs.Box.Ownership.{box_owns}
use Rattle.std.specs.Global.{Global}
use mir.Raw.{raw as bare}
use Rattle.std.proofs.alloc.Calls.{token}
use Rattle.std_alloc.proofs.BoxSteps.Form.{D, B, τ, word, box_typed, handle}
use Rattle.std_alloc.proofs.BoxSteps.Steps.{box_out, box_in}
use Rattle.std_heap.specs.contracts.Global as Heap
use Rattle.std_heap.specs.contracts.GlobalAllocator.TheImpl.{ghosts}
use Rattle.bank_core.specs.contracts.bank.Bank as BankRow
use Rattle.bank_core.proofs.bank.Bank.TheLaws as bank_laws
use Rattle.mixer.specs.contracts.player.Player as PlayerRow
use Rattle.c_loans.proofs.AsBox.{EB, EP}
use Rattle.c_loans.proofs.BoxShorter.{box_shorter}
use Rattle.c_loans.proofs.BankShorter.{bank as bank_sub}
use Rattle.c_loans.proofs.PlayerShorter.{player as player_sub}
use Rattle.bank_parts.specs.declared.parts.Parts.{Parts}
use Rattle.mixer.specs.declared.playing.PlayingVoice.{PlayingVoice}
use Rattle.c_loans.specs.declared.pair.Call.{Call}
use Rattle.c_loans.specs.contracts.pair.Call as CallRow
use Rattle.c_loans.proofs.Tokens.{meet_token}
use Rattle.c_loans.specs.Owned.{at_lft, atoms, level, toks_owned}
use Rattle.c_loans.specs.Starts.{IsStarted}
use Rattle.c_loans.specs.contracts.parts.Parts as PartsRow
use Rattle.c_loans.specs.contracts.pair.BankPtr as BankPtr
use Rattle.c_loans.specs.contracts.pair.PlayerPtr as PlayerPtr
use Rattle.c_loans.specs.contracts.pair.Pair as Pair
use Rattle.c_loans.specs.contracts.pair.start_parts as of
use Rattle.c_loans.proofs.pair.start_parts.Symbol.{name as #of}
use Rattle.c_loans.proofs.pair.start_parts.Met as of_thm
use Rattle.c_loans.specs.contracts.pair.start as F
use Rattle.c_loans.specs.contracts.pair.start.Key.{name as #self}
use Rattle.c_loans.proofs.pair.start.Statement as stated
use Rattle.c_loans.proofs.pair.start.Code as code

-- a bank names its lifetime once for each field that borrows
abbrev many : ℕ → ℕ → Lft
many zero β = []
many (suc n) β = β ∷ many n β

in_many : (κ : Lft) (β : ℕ) → κ ⊑ (β ∷ []) → (n : ℕ) → κ ⊑ many n β
in_many κ β h zero = ⊑_static κ
in_many κ β h (suc n) = ⊑_meet κ (β ∷ []) (many n β) h (in_many κ β h n)

both : (a b : Bool) → T a → T b → T (a && (b && true))
both true true s t = tt
both true false s t = absurd t
both false b s t = absurd s

abbrev stayed : Stays (F.ended).signature.params (F.ended).kept
stayed = (stay_dropped (plain (λ _. PlayerPtr.the_row)) yes, (stay_dropped (plain (λ _. BankPtr.the_row)) yes, (gave_ref (0 ∷ []) tt (plain (λ _. CallRow.the_row)), tt)))

abbrev PR : Lft → RattleType
PR κ = PartsRow.the_row (PlayerRow.the_row (at_lft κ)) Heap.the_row ghosts

module _ {M : Type 1} {𝓤 : Ura M} (𝓛 : Logic 𝓤) (at_mem : Memory → SProp 𝓤) (run : Routine → Fun 𝓤) (𝓣 : Tables 𝓤 𝓛.H) where
  open 𝓛 use {H, A}

  abbrev Of : Contract 𝓤
  Of = triple_of 𝓛 of.signature (of.spec 𝓛 at_mem run)

  abbrev W : Contract 𝓤
  W = walk_of 𝓛 F.ended stayed (F.clauses 𝓛 at_mem run)

  module _ (κ₀ : Lft) (q₀ : Share) (p : Ptr) (pa : Global) (toks : List (ℕ × ℕ)) (at : Ptr) (ba : Global) (β top : ℕ) (status : MutBor Call) where
    abbrev player : List (List PlayingVoice) → (PlayerPtr.the_row).Denot
    player held = record { at = p; alloc = pa; held = held; toks = toks }

    abbrev bank : List Parts → (BankPtr.the_row).Denot
    bank held = record { at = at; alloc = ba; held = held; loan = β; top = top }

    abbrev bound : List (List PlayingVoice) → List Parts → List Val → List Val → List Val → W.Ghost
    bound ph bh us bs ss = (((κ₀, tt), (q₀, tt), tt, (player ph, (bank bh, (status, tt))), (us, (bs, (ss, tt)))), tt)

    abbrev Had : List (List PlayingVoice) → List Parts → List Val → List Val → List Val → SProp 𝓤
    Had ph bh us bs ss = on_entry 𝓛 F.signature (κ₀, tt) (q₀, tt) (player ph, (bank bh, (status, tt))) (us, (bs, (ss, tt)))

    abbrev Runs : List (List PlayingVoice) → List Parts → List Val → List Val → List Val → SProp 𝓤
    Runs ph bh us bs ss = WpFn 𝓤 H 𝓣.C 𝓣.Λ code.function (us ++ (bs ++ (ss ++ []))) (W.post (bound ph bh us bs ss))

    module _ (known : Triple 𝓤 (𝓣.C #of) Of) where
      walk : (ph : List (List PlayingVoice)) (bh : List Parts) (us bs ss : List Val) → (length ph ≡ 1) × (length bh ≡ 1) → ent 𝓤 (Had ph bh us bs ss) (Runs ph bh us bs ss)
      walk [] bh us bs ss one = absurd (omega (arith, one.0))
      walk (x ∷ y ∷ rest) bh us bs ss one = absurd (omega (arith, one.0))
      walk (x ∷ []) [] us bs ss one = absurd (omega (arith, one.1))
      walk (x ∷ []) (c ∷ d ∷ rest) us bs ss one = absurd (omega (arith, one.1))
      walk (x ∷ []) (pts ∷ []) us bs ss one =
          let Post = W.post (bound (x ∷ []) (pts ∷ []) us bs ss) in
          let Rs = MutRef (named 0) κ₀ CallRow.the_row in
          let κ : Lft = atoms toks in let κ' : Lft = β ∷ κ in let toks' : List (ℕ × ℕ) = (β, suc top) ∷ toks in
          let RB = BankRow.the_row (at_lft (β ∷ [])) in let RB' = BankRow.the_row (at_lft κ') in
          qed 𝓛 (((‵ (flft κ₀ q₀) ⊛ ‵ ftrue) ⊛ ‵ (fsep ((PlayerPtr.the_row).own_val (player (x ∷ [])) us) (fsep ((BankPtr.the_row).own_val (bank (pts ∷ [])) bs) (fsep (Rs.own_val status ss) ftrue)))) ∷ []) ∵ split ! $
          move ! (1 ∷ []) $ fsplit ! $ move ! (1 ∷ []) $ fsplit ! $ move ! (1 ∷ []) $ fsplit ! $ peeks ! Rs (Is Rs) (shows 𝓛 Rs) status ss (λ iss.
          let es : ss ≡ mut_vals status = mut_Tells (named 0) κ₀ CallRow.the_row status ss iss in
          -- [the status; true; the bank; the player; the tokens]
          move ! (2 ∷ []) $ fsplit ! $ move ! (1 ∷ []) $ fsplit ! $ move ! (2 ∷ 1 ∷ []) $ fjoin ! $
          let vb : D (EB (β ∷ [])) = record { ptr = at; alloc = ba; value = pts } in
          use1 𝓛 (‵ ((B (EB (β ∷ []))).own_val vb bs)) (id⊢ 𝓤 _) $ box_out (EB (β ∷ [])) ! vb bs (λ bb ob hvb eb wsb fab.
          -- [the bank; its block; its handle; its token; the status; true; the player; the tokens]
          move ! (6 ∷ []) $ fsplit ! $ move ! (1 ∷ []) $ fsplit ! $ move ! (2 ∷ 1 ∷ []) $ fjoin ! $
          let v : D (EP κ) = record { ptr = p; alloc = pa; value = x } in
          let old : (PR κ).Denot = record { ptr = p; alloc = pa; value = x } in
          let made : (PR κ').Denot = record { ptr = p; alloc = pa; value = x } in
          use1 𝓛 (‵ ((B (EP κ)).own_val v us)) (id⊢ 𝓤 _) $ box_out (EP κ) ! v us (λ b o hv e ws fa. box_in (EP κ) ! v b o v.value e refl $ use1 𝓛 (‵ ((PR κ).own_val old (word (EP κ) hv b o ∷ []))) (id⊢ 𝓤 _) $
          let w = word (EP κ) hv b o in let wb = word (EB (β ∷ [])) hvb bb ob in
          let s : Bor Parts = record { ref_ptr = (bb, ob); now = pts } in
          -- [the player; its tokens; the bank; its block; its handle; its token; the status; true; the tokens]
          let Part = part_at RB full_share pts bb ob in
          let T₀ : Item 𝓤 = ‵ (flft κ₀ q₀) ⊛ ‵ ftrue in
          let Γ : List Val → List (Item 𝓤) = λ ss. ‵ ((PR κ).own_val old (w ∷ [])) ∷ ‵ (toks_owned toks) ∷ ‵ Part ∷ ‵ (token (EB (β ∷ [])).al ba (bare (τ (EB (β ∷ [])))) (block_ptr bb ob)) ∷ ‵ (handle (EB (β ∷ [])) ba hvb) ∷ ‵ (flft (β ∷ []) (level top)) ∷ ‵ (Rs.own_val status ss) ∷ ‵ ftrue ∷ T₀ ∷ [] in
          by ! (subst (λ (z : List Val × (List Val × List Val)). ent 𝓤 (types.Kit.⋆ 𝓛 (Γ z.1.1)) (WpFn 𝓤 H 𝓣.C 𝓣.Λ code.function (z.0 ++ (z.1.0 ++ (z.1.1 ++ []))) Post))
          (λ i. (sym ws i, (sym wsb i, sym es i)))
          (qed 𝓛 (Γ (mut_vals status)) ∵ enter ! 𝓣.C 𝓣.Λ code.function (w ∷ wb ∷ mut_vals status) _ $ alloc_all ! (λ ls. pass_all ! refl (box_typed (EP κ) hv b o fa, (box_typed (EB (β ∷ [])) hvb bb ob fab, ((tt, tt), tt))) $
          sets ! (of_opd ! (get_in ! (fld ! refl (stop !)) (sub ! 0 refl (whole !)))) refl (tt, tt) $ sets ! (of_opd ! (get_in ! (fld ! refl (stop !)) (sub ! 1 refl (whole !)))) refl fa $
          sets ! (of_opd ! (get_in ! (fld ! refl (stop !)) (sub ! 0 refl (whole !)))) refl (tt, tt) $ sets ! (of_opd ! (get_in ! (fld ! refl (stop !)) (sub ! 1 refl (whole !)))) refl fab $
          sets ! (of_opd ! (get ! refl)) refl (tt, tt) $ sets ! (of_opd ! (get ! refl)) refl fa $
          sets ! (agg ! (and_then ! (get ! refl) (and_then ! (get ! refl) (no_more !)))) refl (box_typed (EP κ) hv b o fa) $
          first ! $ blocks ! $ sets ! (of_opd ! (get ! refl)) refl (tt, tt) $ sets_last ! (addr ! (through ! refl (stop !))) refl (tt, tt) $
          exec ! 𝓣.C 𝓣.Λ (env (code.function).locals ls) code.Mir.t-9 (at_ret _ Post) $ sets ! (of_opd ! (get ! refl)) refl (tt, tt) $
          sets ! (addr ! (through ! refl (stop !))) refl (tt, tt) $
          lft_new ! tt (λ δ. let μ : Lft = δ ∷ κ' in
          -- the bank is borrowed for δ, and the loan is one at the meet
          move ! (0 ∷ 6 ∷ []) $ join ! $ move ! (3 ∷ 0 ∷ []) $
          use2 𝓛 (later ((‵ ((ShrRef (named 0) (δ ∷ []) RB).own_val s (vptr bb ob ∷ [])) ⊛ ‵ (flent (δ ∷ []) Part)) ⊛ (‵ (flft (δ ∷ []) full_share) ⊛ ‵ (flft (β ∷ []) (level top)))))
          (lends_shr 𝓛 RB (named 0) (δ ∷ []) full_share pts bb ob RB.lives ((bank_laws.the_row_laws (at_lft (β ∷ []))).shares 𝓛 pts) ((δ ∷ [], full_share) ∷ (β ∷ [], level top) ∷ []) (in_many (δ ∷ β ∷ []) β (meet_⊑_right (δ ∷ []) (β ∷ [])) 14) (meet_⊑_left (δ ∷ []) (β ∷ []))) $ await ! tt $ split ! $ split ! $
          use1 𝓛 (‵ ((ShrRef (named 1) μ RB').own_val s (vptr bb ob ∷ []))) ((sub_shr 𝓛 RB RB' (λ y. y) (bank_sub 𝓛 (at_lft (β ∷ [])) (at_lft κ') (meet_⊑_left (β ∷ []) κ)) (bank_laws.the_row_laws (at_lft (β ∷ []))).shr_laws (named 0) (named 1) (δ ∷ []) μ (meet_⊑_left (δ ∷ []) κ')).owns s (vptr bb ob ∷ [])) $
          -- [the loan; what is borrowed; the two tokens; the player; its tokens; the block; the handle; the status; true; T₀]: the bank's token is halved
          move ! (2 ∷ []) $ split ! $ move ! (1 ∷ []) $ use1 𝓛 (‵ (flft (β ∷ []) (level (suc top))) ⊛ ‵ (flft (β ∷ []) (level (suc top)))) (𝓛.lfts.lft_split (β ∷ []) (level top)) $ split ! $
          move ! (0 ∷ 6 ∷ []) $ fjoin ! $ use1 𝓛 (some (λ (q : Share). ‵ (flft κ' q) ⊛ raw (wand 𝓤 (A.lft κ' q) (sem 𝓛 (toks_owned toks'))))) (meet_token 𝓛 toks') $ pick ! (λ q. split ! $
          use1 𝓛 (‵ (flft κ' (Share.left q)) ⊛ ‵ (flft κ' (Share.right q))) (𝓛.lfts.lft_split κ' q) $ split ! $
          -- [two halves of the meet's token; what gives the shares back; the bank's half; δ's token; the loan; what is borrowed; the player; ..]
          move ! (4 ∷ []) $ use1 𝓛 (‵ (flft (δ ∷ []) (Share.right q)) ⊛ raw (wand 𝓤 (A.lft (δ ∷ []) (Share.right q)) (A.lft (δ ∷ []) full_share))) (𝓛.lfts.lft_carve δ (Share.right q)) $ split ! $
          move ! (0 ∷ 3 ∷ []) $ use2 𝓛 (‵ (flft μ (Share.right q))) (𝓛.lfts.lft_meet (δ ∷ []) κ' (Share.right q)) $
          -- [μ's token; what ends δ's loan; the half; what gives the shares back; the bank's half; the loan; what is borrowed; the player; the block; the handle; the status; true; T₀]
          move ! (7 ∷ []) $ fsplit ! $ move ! (1 ∷ []) $
          use1 𝓛 (‵ (box_owns (ghosts.dealloc_token pa) (PlayerRow.the_row (at_lft κ')) p x)) (box_shorter 𝓛 (PlayerRow.the_row (at_lft κ)) (PlayerRow.the_row (at_lft κ')) (λ y. y) (player_sub 𝓛 (at_lft κ) (at_lft κ') (meet_⊑_right (β ∷ []) κ)) (ghosts.dealloc_token pa) p x) $
          move ! (1 ∷ 0 ∷ []) $ fjoin ! $ use1 𝓛 (‵ ((PR κ').own_val made (w ∷ []))) (id⊢ 𝓤 _) $
          let κs : Lfts 3 = (κ', (μ, (κ₀, tt))) in
          let passed : Args of.signature κs = (made, (s, (status, tt))) in
          let y : Of.Ghost = ((κs, (Share.left q, (Share.right q, (q₀, tt))), (meet_⊑_right (δ ∷ []) κ', tt), passed, (w ∷ [], (vptr bb ob ∷ [], (mut_vals status, tt)))), tt) in
          nothing ! $ move ! (11 ∷ 0 ∷ []) $ fjoin ! $ move ! (7 ∷ 0 ∷ []) $ fjoin ! $ move ! (1 ∷ 0 ∷ []) $ fjoin ! $
          move ! (1 ∷ 10 ∷ []) $ join ! $ move ! (3 ∷ 0 ∷ []) $ join ! $ join ! $ nothing ! $ move ! (1 ∷ 0 ∷ []) $ join ! $ use1 𝓛 (raw (Of.pre y)) (id⊢ 𝓤 _) $
          -- start_parts(..); [what ends δ's loan; what gives the shares back; the bank's half; what is borrowed; the block; the handle; true]
          calls_at ! (fm_of 𝓤 H 𝓛.laws 𝓣) Of known y (and_then ! (get ! refl) (and_then ! (get ! refl) (and_then ! (get ! refl) (no_more !)))) (λ u.
          use1 𝓛 (later (some (λ (r : (PR κ').Denot). ((‵ (flft κ' (Share.left q)) ⊛ (‵ (flft μ (Share.right q)) ⊛ T₀)) ⊛ ‵ ((PR κ').own_val r (u ∷ []))) ⊛ raw (ensured 𝓛 of.ended (of.clauses 𝓛 at_mem run) κs passed tt r)))) (id⊢ 𝓤 _) $ await ! tt $ pick ! (λ r.
          split ! $ move ! (1 ∷ []) $ use1 𝓛 (some (λ (fin : Lasts of.ended κs passed). ‵ (lasts of.ended κs passed fin) ⊛ raw (fact 𝓤 (IsStarted pts x status.now r.value fin.1.1.0)))) (id⊢ 𝓤 _) $
          pick ! (λ fin. split ! $ move ! (1 ∷ []) $ heard ! (IsStarted pts x status.now r.value fin.1.1.0) (λ started.
          fsplit ! $ drop ! $ fsplit ! $ drop ! $ fsplit ! $ move ! (1 ∷ []) $ drop ! $
          move ! (1 ∷ []) $ split ! $ split ! $ move ! (1 ∷ []) $ split ! $
          -- [μ's token; T₀; the half; the parts; the status' end; what ends δ's loan; what gives the shares back; the bank's half; what is borrowed; the block; the handle; true]
          use1 𝓛 (‵ (flft (δ ∷ []) (Share.right q)) ⊛ ‵ (flft κ' (Share.right q))) (𝓛.lfts.lft_unmeet (δ ∷ []) κ' (Share.right q)) $ split ! $
          move ! (0 ∷ 6 ∷ []) $ use2 𝓛 (‵ (flft (δ ∷ []) full_share)) (apply∗ 𝓤 (A.lft (δ ∷ []) (Share.right q)) (A.lft (δ ∷ []) full_share)) $
          lft_end ! tt $ move ! (0 ∷ 8 ∷ []) $ lent_back ! tt $
          -- [the bank; a half; T₀; a half; the parts; the status' end; what gives the shares back; the bank's half; the block; the handle; true]
          move ! (3 ∷ 1 ∷ []) $ use2 𝓛 (‵ (flft κ' q)) (𝓛.lfts.lft_join κ' q) $ move ! (0 ∷ 5 ∷ []) $ use2 𝓛 (‵ (toks_owned toks')) (apply∗ 𝓤 (A.lft κ' q) (sem 𝓛 (toks_owned toks'))) $
          -- [the player's tokens; the bank; T₀; the parts; the status' end; the bank's half; the block; the handle; true]
          move ! (1 ∷ 6 ∷ 7 ∷ []) $ box_in (EB (β ∷ [])) ! vb bb ob pts eb refl $ fsplit ! $
          -- [the bank's fields; its box; the player's tokens; T₀; the parts; the status' end; the bank's half; true]
          let backB : (BankPtr.the_row).Denot = record { at = at; alloc = ba; held = pts ∷ []; loan = β; top = suc top } in
          move ! (6 ∷ 1 ∷ []) $ fjoin ! $ move ! (1 ∷ 0 ∷ []) $ fjoin ! $ use1 𝓛 (‵ ((BankPtr.the_row).own_val backB (wb ∷ []))) (id⊢ 𝓤 _) $
          let d : D (EP κ') = record { ptr = r.ptr; alloc = r.alloc; value = r.value } in
          let backP : (PlayerPtr.the_row).Denot = record { at = r.ptr; alloc = r.alloc; held = r.value ∷ []; toks = toks' } in
          let made' : (Pair.the_row).Denot = record { player = backP; bank = backB } in
          move ! (3 ∷ []) $ use1 𝓛 (‵ ((B (EP κ')).own_val d (u ∷ []))) (id⊢ 𝓤 _) $ box_out (EP κ') ! d (u ∷ []) (λ b' o' hw e' wu fw.
          let wp = word (EP κ') hw b' o' in let both' = vstruct (vcons wp (vcons wb vnil)) in
          let tp = box_typed (EP κ') hw b' o' fw in let tb = box_typed (EB (β ∷ [])) hvb bb ob fab in
          lands_as ! (ap only wu) refl tp $
          sets ! (of_opd ! (get_in ! (fld ! refl (stop !)) (sub ! 0 refl (whole !)))) refl (tt, tt) $ sets ! (of_opd ! (get_in ! (fld ! refl (stop !)) (sub ! 1 refl (whole !)))) refl fw $
          sets ! (of_opd ! (get ! refl)) refl (tt, tt) $ sets ! (of_opd ! (get ! refl)) refl fw $ sets ! (agg ! (and_then ! (get ! refl) (and_then ! (get ! refl) (no_more !)))) refl tp $
          sets ! (of_opd ! (get ! refl)) refl (tt, tt) $ sets ! (of_opd ! (get ! refl)) refl fab $ sets ! (agg ! (and_then ! (get ! refl) (and_then ! (get ! refl) (no_more !)))) refl tb $
          sets ! (agg ! (and_then ! (get ! refl) (and_then ! (get ! refl) (no_more !)))) refl (both _ _ tp.0 tb.0, (tp.1, (tb.1, tt))) $ returns ! (look_at ! 0 refl) $ free_all ! refl $
          box_in (EP κ') ! d b' o' r.value e' refl $ fsplit ! $
          -- [the player's fields; its box; the bank; the player's tokens; T₀; the status' end; true]
          move ! (3 ∷ 1 ∷ []) $ fjoin ! $ move ! (1 ∷ 0 ∷ []) $ fjoin ! $ use1 𝓛 (‵ ((PlayerPtr.the_row).own_val backP (wp ∷ []))) (id⊢ 𝓤 _) $
          nothing ! $ move ! (2 ∷ 0 ∷ []) $ fjoin ! $ move ! (1 ∷ 0 ∷ []) $ fjoin ! $ feq_i ! (List Val) (both' ∷ []) (both' ∷ []) refl $ fjoin ! $
          fpack ! (Valss (PlayerPtr.the_row ∷ BankPtr.the_row ∷ [])) (within (struct.shape Pair.the_type) (backP, (backB, tt)) (both' ∷ [])) (wp ∷ [], (wb ∷ [], tt)) $ use1 𝓛 (‵ ((Pair.the_row).own_val made' (both' ∷ []))) (id⊢ 𝓤 _) $
          move ! (3 ∷ []) $ drop ! $
          suffices ! _ (ends_at 𝓛 F.ended stayed (F.clauses 𝓛 at_mem run) (bound (x ∷ []) (pts ∷ []) us bs ss) both' made' (tt, (tt, (fin.1.1.0, tt))) (tt, (tt, (tt, tt)))) $
          says ! (refl, refl, started, refl, refl, refl) $
          nothing ! $ move ! (3 ∷ 0 ∷ []) $ fjoin ! $ nothing ! $ fjoin ! $ nothing ! $ fjoin ! $ join ! $ move ! (1 ∷ 0 ∷ []) $ join ! $ done !)))))))))))))

pub start_spec : {M : Type 1} → stated.statement M
unfolding tables_of
start_spec 𝓤 𝓛 𝓜 𝓡 wired =
    let 𝓣 : Tables 𝓤 𝓛.H = tables_of 𝓤 𝓛.H 𝓜 (tables 𝓤 𝓛.H 𝓜 𝓡 𝓡.env) in
    let known = of_thm.met 𝓤 𝓛 𝓜 𝓡 (code.calls-c_loans::pair::start_parts 𝓡.env wired) in
    entered 𝓤 𝓛.H (triple_of 𝓛 F.signature (F.spec 𝓛 𝓜.mem 𝓡.returns)) 𝓣.C 𝓣.Λ #self code.function (code.unfolded 𝓤 𝓛.H 𝓜 𝓡 wired)
    (walk_Meets 𝓛 F.ended stayed (Goes-dropped 𝓛 1 (plain (λ _. PlayerPtr.the_row)) yes (λ κs x f. refl), (Goes-dropped 𝓛 1 (plain (λ _. BankPtr.the_row)) yes (λ κs x f. refl), (Goes-gave_ref 𝓛 1 0 tt (plain (λ _. CallRow.the_row)), tt))) (F.clauses 𝓛 𝓜.mem 𝓡.returns) (WpFn 𝓤 𝓛.H 𝓣.C 𝓣.Λ code.function) (WpFn-mono 𝓤 𝓛.H 𝓛.laws 𝓣 code.function)
    (λ z. let d = z.0.3.0 in let c = z.0.3.1.0 in let vs = z.0.4 in needs 𝓤 ((length d.held ≡ 1) × (length c.held ≡ 1)) (Had 𝓛 𝓜.mem 𝓡.returns 𝓣 z.0.0.0 z.0.1.0 d.at d.alloc d.toks c.at c.alloc c.loan c.top z.0.3.1.1.0 d.held c.held vs.0 vs.1.0 vs.1.1.0)
    (walk 𝓛 𝓜.mem 𝓡.returns 𝓣 z.0.0.0 z.0.1.0 d.at d.alloc d.toks c.at c.alloc c.loan c.top z.0.3.1.1.0 known d.held c.held vs.0 vs.1.0 vs.1.1.0)))
