-- One side of the frames, as floats: s is 0 on the left, 1 on the right.
use Rattle.std.proofs.Common.{◌≡◌, ℕ, ◌+◌, ◌-◌, ◌*◌, ◌<◌, ◌≤◌, pos, List, ◌++◌, map, take, length, get_or, inl, inr, ap, subst, ◌∙◌, arith}
use Rattle.std.specs.Float.{Float, float_zero}
use Rattle.std.proofs.lemmas.Bool.{cases_lt}
use Rattle.std.proofs.lemmas.Grind.{common_steps}
use Rattle.std.proofs.lemmas.List.FromFn.{get_or-map-range_with_len}
use Rattle.mixer.specs.declared.playing.PlayingVoice.{PlayingVoice}
use Rattle.mixer.specs.StartFrames.{clipped}
use Rattle.mixer.specs.Events.{after_block, aged, block, next_side}
use Rattle.mixer.proofs.Rewinding.{after_more, next_sounding, total_later}
use Rattle.sfbank_c.specs.declared.open_player.OpenPlayer.{OpenPlayer}
use Rattle.sfbank_c.specs.Players.{later}
use Rattle.sfbank_c.specs.Floats.{scaled, AreSides}

-- the first n floats of a side are the next frames of these voices
abbrev pub IsSide : ℕ → List PlayingVoice → ℕ → List Float → Type 0
IsSide s ps n xs = (k : ℕ) → k < n → get_or xs k float_zero ≡ scaled (next_side ps (2 * k + s))

block_at : (ps : List PlayingVoice) (m i : ℕ) → i < 2 * m → get_or (block ps m) i (pos 0) ≡ next_side ps i
unfolding block
block_at ps m i h = get_or-map-range_with_len (next_side ps) 0 (2 * m) i i (pos 0) h (omega arith)

pub sides_left : (ps : List PlayingVoice) (m : ℕ) (left right : List Float) → m ≤ length left → AreSides (block ps m) left right
    → IsSide 0 ps m left
sides_left ps m left right few h k l =
    (h k (omega (arith, few, l))).0
    ∙ ap scaled (block_at ps m (2 * k) (omega (arith, l)) ∙ ap (next_side ps) (let e : 2 * k ≡ 2 * k + 0 = omega arith in e))

pub sides_right : (ps : List PlayingVoice) (m : ℕ) (left right : List Float) → m ≤ length left → AreSides (block ps m) left right
    → IsSide 1 ps m right
sides_right ps m left right few h k l =
    (h k (omega (arith, few, l))).1 ∙ ap scaled (block_at ps m (2 * k + 1) (omega (arith, l)))

pub of_sides : (ps : List PlayingVoice) (m : ℕ) (left right : List Float) → length left ≡ m → IsSide 0 ps m left
    → IsSide 1 ps m right
    → AreSides (block ps m) left right
of_sides ps m left right e l r k h =
    let lt : k < m = omega (arith, h, e) in
    let even : 2 * k < 2 * m = omega (arith, lt) in
    let odd : 2 * k + 1 < 2 * m = omega (arith, lt) in
    let same : get_or (block ps m) (2 * k) (pos 0) ≡ next_side ps (2 * k + 0) =
    block_at ps m (2 * k) even ∙ ap (next_side ps) (let e : 2 * k ≡ 2 * k + 0 = omega arith in e) in
    let other : get_or (block ps m) (2 * k + 1) (pos 0) ≡ next_side ps (2 * k + 1) = block_at ps m (2 * k + 1) odd in
    (rw same (l k lt), rw other (r k lt))

later_side : (ps : List PlayingVoice) (at j : ℕ) → next_side (after_block ps at) j ≡ next_side ps (2 * at + j)
unfolding after_block next_side
later_side ps at j = next_sounding (map (aged at) ps) j ∙ ap clipped (total_later at j ps)

-- the next frames are written after the first
pub side_more : (s : ℕ) (ps : List PlayingVoice) (at n : ℕ) (xs new rest : List Float) → at ≤ length xs → n ≤ length new
    → IsSide s ps at xs
    → IsSide s (after_block ps at) n new
    → IsSide s ps (at + n) (take at xs ++ (new ++ rest))
side_more s ps at n xs new rest h m before here k l =
    elim (cases_lt k at) [
      | inl lt ↦
          (let e : get_or (take at xs ++ (new ++ rest)) k float_zero ≡ get_or xs k float_zero = grind (arith, common_steps) in
          e)
          ∙ before k lt
      | inr ge ↦
          (let e : get_or (take at xs ++ (new ++ rest)) k float_zero ≡ get_or new (k - at) float_zero =
          grind (arith, common_steps) in e)
          ∙ here (k - at) (omega arith)
          ∙ ap scaled
          (later_side ps at (2 * (k - at) + s)
          ∙ ap (next_side ps) (let e : 2 * at + (2 * (k - at) + s) ≡ 2 * k + s = omega (arith, ge) in e))
    ]

-- a part is written after the first frames
pub part_more : (ps qs : List PlayingVoice) (at end m : ℕ) (left right new other after_new after_other : List Float) → at ≤ end
    → end ≤ length left → length right ≡ length left → m ≡ end - at → length new ≡ m → length other ≡ m
    → qs ≡ after_block ps at → AreSides (block qs m) new other → IsSide 0 ps at left → IsSide 1 ps at right
    → IsSide 0 ps end (take at left ++ (new ++ after_new)) × IsSide 1 ps end (take at right ++ (other ++ after_other))
part_more ps qs at end m left right new other after_new after_other h within equal e size size' is sides l r =
    let now : AreSides (block (after_block ps at) m) new other =
    (let P : List PlayingVoice → Type 0 = λ vs. AreSides (block vs m) new other in subst P is sides) in
    let all : at + m ≡ end = omega (arith, h, e) in
    let P : ℕ → Type 0 = λ n. IsSide 0 ps n (take at left ++ (new ++ after_new)) in
    let Q : ℕ → Type 0 = λ n. IsSide 1 ps n (take at right ++ (other ++ after_other)) in (
      subst P all
          (side_more 0 ps at m left new after_new (omega (arith, h, within)) (omega (arith, size)) l
          (sides_left (after_block ps at) m new other (omega (arith, size)) now)),
      subst Q all
          (side_more 1 ps at m right other after_other (omega (arith, h, within, equal)) (omega (arith, size')) r
          (sides_right (after_block ps at) m new other (omega (arith, size)) now)),
    )

pub later_more : (at m end : ℕ) (p q r : OpenPlayer) → q ≡ later at p → r ≡ later m q → at + m ≡ end → r ≡ later end p
later_more at m end p q r h k e =
    k ∙ ap (later m) h ∙ ap (λ vs. let o : OpenPlayer = record { player = vs } in o) (after_more at m p.player ∙ ap (after_block p.player) e)
