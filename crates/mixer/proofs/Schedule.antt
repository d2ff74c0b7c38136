-- Sorted notes as events: a block up to each start, and one up to the end.
use Rattle.std.proofs.Common.{◌≡◌, ℕ, ◌+◌, ◌-◌, ◌*◌, ◌/◌, ◌%◌, ◌<◌, ◌≤◌, ℤ, List, [], ◌∷◌, ◌++◌, map, take, drop}
use Rattle.std.proofs.Common.{length, get_or, refl, sym, ap, ◌∙◌, subst, arith, append_assoc, append-nil}
use Rattle.std.proofs.lemmas.List.{at_drop_more, at_drop_all}
use Rattle.std.proofs.lemmas.Slice.{take-put_mid}
use Rattle.std.proofs.lemmas.Grind.{common_steps}
use Rattle.script_notes.specs.Notes.{Numbers}
use Rattle.bank_parts.specs.declared.parts.Parts.{Parts}
use Rattle.mixer.specs.declared.playing.PlayingVoice.{PlayingVoice}
use Rattle.mixer.specs.StartFrames.{Start, note_voices, frames}
use Rattle.mixer.specs.Events.{Event, Started, Given, starts, given, heard, after_start, after_block, block, blocks}
use Rattle.mixer.specs.Order.{start_of, frames_of, IsRising, StartWithin}
use Rattle.mixer.proofs.EventLaws.{blocks_heard}

unfoldable pub events_from : ℕ → List Numbers → ℕ → List Event
events_from t [] m = Given (m - t) ∷ []
events_from t (n ∷ ns) m = Given (n.start - t) ∷ Started n ∷ events_from n.start ns m

starts_scheduled : (b : Parts) (t : ℕ) (ns : List Numbers) (m : ℕ) → IsRising t ns
    → starts b t (events_from t ns m) ≡ map (start_of b) ns
unfolding events_from starts start_of
starts_scheduled b t [] m r = refl
starts_scheduled b t (n ∷ ns) m r =
    ap (λ u. (let s : Start = record { frame = u; voices = note_voices b n } in s) ∷ starts b u (events_from n.start ns m))
    (let e : t + (n.start - t) ≡ n.start = omega (arith, r.0) in e)
    ∙ ap (λ ss. (let s : Start = record { frame = n.start; voices = note_voices b n } in s) ∷ ss)
    (starts_scheduled b n.start ns m r.1)

given_scheduled : (t : ℕ) (ns : List Numbers) (m : ℕ) → t ≤ m → IsRising t ns → StartWithin m ns
    → given (events_from t ns m) ≡ m - t
unfolding events_from given
given_scheduled t [] m h r w = omega arith
given_scheduled t (n ∷ ns) m h r w =
    ap (λ k. n.start - t + k) (given_scheduled n.start ns m w.0 r.1 w.1)
    ∙ (let e : n.start - t + (m - n.start) ≡ m - t = omega (arith, r.0, w.0) in e)

-- the blocks of sorted notes are their frames
pub scheduled : (b : Parts) (ns : List Numbers) (m : ℕ) → IsRising 0 ns → StartWithin m ns
    → blocks b [] (events_from 0 ns m) ≡ frames_of b ns m
unfolding heard frames_of
scheduled b ns m r w =
    blocks_heard b (events_from 0 ns m)
    ∙
    (λ j.
    frames (starts_scheduled b 0 ns m r j) 0
    ((given_scheduled 0 ns m (omega arith) r w ∙ (let e : m - 0 ≡ m = omega arith in e)) j))

-- the frames that are written, and those still to come, are all frames
pub record IsPlayed (b : Parts) (ps : List PlayingVoice) (ns : List Numbers) (now : ℕ) (out all : List ℤ) : Type 0 where
  pub even : now % 2 ≡ 0
  pub within : now ≤ length out
  pub rising : IsRising (now / 2) ns
  pub starts_in : StartWithin (length out / 2) ns
  pub is : take now out ++ blocks b ps (events_from (now / 2) ns (length out / 2)) ≡ all

pub play_step : (b : Parts) (ps qs : List PlayingVoice) (n : Numbers) (ns : List Numbers) (now next : ℕ)
    (out new written all : List ℤ)
    → IsPlayed b ps (n ∷ ns) now out all
    → next ≡ 2 * n.start
    → new ≡ block ps ((next - now) / 2) → length new ≡ next - now
    → qs ≡ after_start (after_block ps ((next - now) / 2)) (note_voices b n)
    → written ≡ take now out ++ (new ++ drop (next - now) (drop now out))
    → length written ≡ length out
    → IsPlayed b qs ns next written all
unfolding events_from blocks
play_step b ps qs n ns now next out new written all p at new_is len qs_is written_is same_len =
    let even = p.even in
    let later : now / 2 ≤ n.start = p.rising.0 in
    let half : (next - now) / 2 ≡ n.start - now / 2 = omega (arith, even, at, later) in
    let there : next / 2 ≡ n.start = omega (arith, at) in
    let m : ℕ = length out / 2 in
    let front : take next written ≡ take now out ++ new =
    ap (take next) written_is
    ∙ take-put_mid now (next - now) out new next (omega (arith, len, at, later, even)) p.within in
    let rest : List Event = events_from n.start ns m in
    record {
      even = omega (arith, at);
      within = omega (arith, at, same_len, p.starts_in.0);
      rising = subst (λ t. IsRising t ns) (sym there) p.rising.1;
      starts_in = subst (λ l. StartWithin (l / 2) ns) (sym same_len) p.starts_in.1;
      is =
          (λ j. front j ++ blocks b (qs_is j) (events_from (there j) ns (same_len j / 2)))
          ∙ append_assoc (take now out) new
          (blocks b (after_start (after_block ps ((next - now) / 2)) (note_voices b n)) rest)
          ∙ ap
          (λ l. take now out ++ (l ++ blocks b (after_start (after_block ps ((next - now) / 2)) (note_voices b n)) rest))
          new_is
          ∙ ap (λ k. take now out ++ (block ps k ++ blocks b (after_start (after_block ps k) (note_voices b n)) rest)) half
          ∙ p.is;
    }

pub play_last : (b : Parts) (ps : List PlayingVoice) (now : ℕ) (out new written all : List ℤ)
    → IsPlayed b ps [] now out all → length out % 2 ≡ 0
    → new ≡ block ps ((length out - now) / 2) → written ≡ take now out ++ new → written ≡ all
unfolding events_from blocks
play_last b ps now out new written all p even new_is written_is =
    let was = p.even in
    let half : (length out - now) / 2 ≡ length out / 2 - now / 2 = omega (arith, was, even, p.within) in
    written_is
    ∙ ap (λ l. take now out ++ l)
    (new_is ∙ ap (block ps) half ∙ sym (append-nil (block ps (length out / 2 - now / 2))))
    ∙ p.is

-- the note at the loop's index
pub played_next : (b : Parts) (ps : List PlayingVoice) (ns : List Numbers) (i now : ℕ) (n : Numbers) (out all : List ℤ)
    → i < length ns → n ≡ get_or ns i n
    → IsPlayed b ps (drop i ns) now out all → IsPlayed b ps (n ∷ drop (i + 1) ns) now out all
played_next b ps ns i now n out all l e p =
    subst (λ (x : Numbers). IsPlayed b ps (x ∷ drop (i + 1) ns) now out all) (sym e)
    (subst (λ (ms : List Numbers). IsPlayed b ps ms now out all) (at_drop_more (λ (ms : List Numbers). ms) ns i n l) p)

pub played_end : (b : Parts) (ps : List PlayingVoice) (ns : List Numbers) (i now : ℕ) (out all : List ℤ) → length ns ≤ i
    → IsPlayed b ps (drop i ns) now out all → IsPlayed b ps [] now out all
played_end b ps ns i now out all l p =
    subst (λ (ms : List Numbers). IsPlayed b ps ms now out all) (at_drop_all (λ (ms : List Numbers). ms) ns i l) p

pub part_len : (i n : ℕ) (xs : List ℤ) → i + n ≤ length xs → length (take n (drop i xs)) ≡ n
part_len i n xs h = grind (arith, common_steps)

pub put_len : (i n : ℕ) (xs new : List ℤ) → i + n ≤ length xs → length new ≡ n
    → length (take i xs ++ (new ++ drop n (drop i xs))) ≡ length xs
put_len i n xs new h e = grind (arith, common_steps)

pub last_put : (i : ℕ) (xs new : List ℤ) → i ≤ length xs
    → take i xs ++ (new ++ drop (length xs - i) (drop i xs)) ≡ take i xs ++ new
last_put i xs new h = grind (arith, common_steps)
