-- The sums of frames mixed ahead.
use Rattle.std.proofs.Common.{◌≡◌, ℕ, ◌+◌, ◌-◌, ◌*◌, ◌/◌, ◌<◌, ◌≤◌, ◌^◌, ℤ, pos, ◌+ℤ◌, List, ◌++◌, map, filter}
use Rattle.std.proofs.Common.{false, not, take, drop, length, get_or, inl, inr, sym, ap, ◌∙◌, subst, arith}
use Rattle.std.specs.List.{All, list_any}
use Rattle.std.proofs.lemmas.Bool.{cases_lt}
use Rattle.std.proofs.lemmas.Grind.{common_steps}
use Rattle.std.proofs.lemmas.List.{length-map, length-append, length-take, length-drop, map-append}
use Rattle.std.proofs.lemmas.List.Elements.{All-append, All-filter, All-map, filter-append, filter_passes}
use Rattle.voices.specs.Within.{IsWithin}
use Rattle.mixer.specs.declared.ahead.Ahead.{Ahead}
use Rattle.mixer.specs.declared.playing.PlayingVoice.{PlayingVoice}
use Rattle.mixer.specs.StartFrames.{has_class, silences}
use Rattle.mixer.specs.Events.{is_sounding, unsilenced, aged, after_block, total_at, next_side}
use Rattle.mixer.specs.KeptVoices.{AllYounger, AllSounding}
use Rattle.mixer.specs.Ahead.{rewound, side_remaining, middle_remaining, AreWithin, AreSums, IsAhead, playing_now}
use Rattle.mixer.proofs.Classes.{none_silenced}
use Rattle.mixer.proofs.Silent.{wider}
use Rattle.mixer.proofs.Sums.{sum_over-append}
use Rattle.mixer.proofs.Parts.{filter_all}
use Rattle.mixer.proofs.Rewinding.{rewound-none, rewound-aged, rewound-fewer, unsilenced-rewound, sounding_later}
use Rattle.mixer.proofs.Rewinding.{next_sounding, total_later}

-- ---- bounds of sums

pub within_more : (m n : ℕ) (a : Ahead) → m ≤ n → AreWithin m a → AreWithin n a
within_more m n a le h = record {
  most = h.most;
  sides = λ i l. wider m n (side_remaining a i) le (h.sides i l);
  middle = λ k l. wider m n (middle_remaining a k) le (h.middle k l);
}

-- ---- the ends of the lists

written : (n k : ℕ) (xs ys zs : List ℤ) → n ≤ length xs → k < length ys
    → get_or (take n xs ++ (ys ++ zs)) (n + k) (pos 0) ≡ get_or ys k (pos 0)
written n k xs ys zs h l = grind (arith, common_steps)

-- a value written there is read there
pub sides_written : (left : ℕ) (xs ys zs : List ℤ) (i : ℕ) → left ≤ 1024 → length xs ≡ 2048 → i < length ys
    → get_or (take (2 * (1024 - left)) xs ++ (ys ++ zs)) (2048 - 2 * left + i) (pos 0) ≡ get_or ys i (pos 0)
sides_written left xs ys zs i le size l =
    let place : 2048 - 2 * left + i ≡ 2 * (1024 - left) + i = omega (arith, le) in
    ap (λ k. get_or (take (2 * (1024 - left)) xs ++ (ys ++ zs)) k (pos 0)) place
    ∙ written (2 * (1024 - left)) i xs ys zs (omega (arith, le, size)) l

pub middle_written : (left : ℕ) (xs ys zs : List ℤ) (k : ℕ) → left ≤ 1024 → length xs ≡ 1024 → k < length ys
    → get_or (take (1024 - left) xs ++ (ys ++ zs)) (1024 - left + k) (pos 0) ≡ get_or ys k (pos 0)
middle_written left xs ys zs k le size l = written (1024 - left) k xs ys zs (omega (arith, le, size)) l

-- the lengths of the ends, as they are borrowed
pub length-sides : (left : ℕ) (xs : List ℤ) → left ≤ 1024 → length xs ≡ 2048
    → length (take (2048 - 2 * (1024 - left)) (drop (2 * (1024 - left)) xs)) ≡ 2 * left
length-sides left xs le size =
    omega (
      arith,
      le,
      size,
      length-take (2048 - 2 * (1024 - left)) (drop (2 * (1024 - left)) xs),
      length-drop (2 * (1024 - left)) xs,
    )

pub length-middle : (left : ℕ) (xs : List ℤ) → left ≤ 1024 → length xs ≡ 1024
    → length (take (1024 - (1024 - left)) (drop (1024 - left) xs)) ≡ left
length-middle left xs le size =
    omega (arith, le, size, length-take (1024 - (1024 - left)) (drop (1024 - left) xs), length-drop (1024 - left) xs)

get_take_drop : (n m k : ℕ) (xs : List ℤ) → k < m → get_or (take m (drop n xs)) k (pos 0) ≡ get_or xs (n + k) (pos 0)
get_take_drop n m k xs l = grind (arith, common_steps)

pub sides_borrowed : (left : ℕ) (xs : List ℤ) (i : ℕ) → left ≤ 1024 → i < 2 * left
    → get_or (take (2048 - 2 * (1024 - left)) (drop (2 * (1024 - left)) xs)) i (pos 0)
    ≡ get_or xs (2048 - 2 * left + i) (pos 0)
sides_borrowed left xs i le l =
    get_take_drop (2 * (1024 - left)) (2048 - 2 * (1024 - left)) i xs (omega (arith, le, l))
    ∙ ap (λ k. get_or xs k (pos 0)) (omega (arith, le))

pub middle_borrowed : (left : ℕ) (xs : List ℤ) (k : ℕ) → left ≤ 1024 → k < left
    → get_or (take (1024 - (1024 - left)) (drop (1024 - left) xs)) k (pos 0) ≡ get_or xs (1024 - left + k) (pos 0)
middle_borrowed left xs k le l = get_take_drop (1024 - left) (1024 - (1024 - left)) k xs (omega (arith, le, l))

-- ---- without remaining frames

pub none_within : (n : ℕ) (a : Ahead) → a.left ≡ 0 → AreWithin n a
none_within n a e =
    record {
      most =
          omega (arith, e);
      sides =
          λ i h. absurd (omega (arith, e, h));
      middle = λ k h. absurd (omega (arith, e, h));
    }

pub none_summed : (a : Ahead) (ps : List PlayingVoice) → a.left ≡ 0 → AreSums a ps
none_summed a ps e = record { within = none_within (length ps) a e; sums = λ i h. absurd (omega (arith, e, h)) }

pub none_ahead : (a : Ahead) (ps : List PlayingVoice) → a.left ≡ 0 → AllYounger (2 ^ 33 + 1024) ps → IsAhead a ps
none_ahead a ps e young = record {
  sums = none_summed a (map (rewound a.left) ps) e;
  given = λ k d h. omega (arith, e);
  young = young;
  few = λ h. absurd (omega (arith, e, h));
}

-- the sums of a player's voices fit in their integers
pub room_of : (a : Ahead) (ps : List PlayingVoice) → IsAhead a ps → AreWithin 32767 a
room_of a ps h = elim (cases_lt 0 a.left) [
  | inl some ↦
      let few = h.few some in
      let size = length-map ps (rewound a.left) in
      within_more (length (map (rewound a.left) ps)) 32767 a (omega (arith, few, size)) h.sums.within
  | inr none ↦ none_within 32767 a (omega (arith, none))
]

-- ---- the ages of voices

pub younger_more : (m n : ℕ) (ps : List PlayingVoice) → m ≤ n → AllYounger m ps → AllYounger n ps
younger_more m n ps le young = λ k d l. let g : (get_or ps k d).voice.age < m = young k d l in omega (arith, g, le)

-- ---- more voices

total-append : (ps qs : List PlayingVoice) (i : ℕ) → total_at (ps ++ qs) i ≡ total_at ps i +ℤ total_at qs i
unfolding total_at
total-append ps qs i = sum_over-append _ ps qs

-- the remaining frames of one list plus those of more voices
pub joined : (a b : Ahead) (ps qs : List PlayingVoice) → b.left ≡ a.left
    →
    ((i : ℕ) → i < 2 * a.left
    → side_remaining b i +ℤ middle_remaining b (i / 2) ≡ side_remaining a i +ℤ middle_remaining a (i / 2) +ℤ total_at qs i)
    →
    ((j i : ℕ) → i < 2 * a.left → ((k : ℕ) → k < 2 * a.left → IsWithin j (side_remaining a k))
    → IsWithin (j + length qs) (side_remaining b i))
    →
    ((j i : ℕ) → i < a.left → ((k : ℕ) → k < a.left → IsWithin j (middle_remaining a k))
    → IsWithin (j + length qs) (middle_remaining b i))
    → AreSums a ps → AreSums b (ps ++ qs)
joined a b ps qs left sums sides middle h =
    let size = length-append ps qs in
    record {
      within = record {
        most = omega (arith, left, h.within.most);
        sides =
            λ i l.
            wider (length ps + length qs) (length (ps ++ qs)) _ (omega (arith, size))
            (sides (length ps) i (omega (arith, left, l)) h.within.sides);
        middle =
            λ k l.
            wider (length ps + length qs) (length (ps ++ qs)) _ (omega (arith, size))
            (middle (length ps) k (omega (arith, left, l)) h.within.middle);
      };
      sums = λ i l. let here : i < 2 * a.left = omega (arith, left, l) in
          sums i here ∙ ap (λ z. z +ℤ total_at qs i) (h.sums i here) ∙ sym (total-append ps qs i);
    }

-- ---- later frames

-- m frames have been written
pub given_later : (a b : Ahead) (ps : List PlayingVoice) (m : ℕ) → b.sides ≡ a.sides → b.middle ≡ a.middle
    → b.left + m ≡ a.left → AreSums a ps → AreSums b (map (aged m) ps)
given_later a b ps m sides middle left h =
    let most = h.within.most in
    let size = length-map ps (aged m) in
    let side : (i : ℕ) → side_remaining b i ≡ side_remaining a (2 * m + i) = λ i.
    ap (λ (xs : List ℤ). get_or xs (2048 - 2 * b.left + i) (pos 0)) sides
    ∙ ap (λ k. get_or a.sides k (pos 0)) (omega (arith, left, most)) in
    let both : (k : ℕ) → middle_remaining b k ≡ middle_remaining a (m + k) = λ k.
    ap (λ (xs : List ℤ). get_or xs (1024 - b.left + k) (pos 0)) middle
    ∙ ap (λ j. get_or a.middle j (pos 0)) (omega (arith, left, most)) in
    record {
      within = record {
        most = omega (arith, left, most);
        sides =
            λ i l.
            subst (IsWithin (length (map (aged m) ps))) (sym (side i))
            (wider (length ps) (length (map (aged m) ps)) _ (omega (arith, size))
            (h.within.sides (2 * m + i) (omega (arith, left, l))));
        middle =
            λ k l.
            subst (IsWithin (length (map (aged m) ps))) (sym (both k))
            (wider (length ps) (length (map (aged m) ps)) _ (omega (arith, size))
            (h.within.middle (m + k) (omega (arith, left, l))));
      };
      sums = λ i l.
          (λ j. side i j +ℤ both (i / 2) j)
          ∙ ap (λ k. side_remaining a (2 * m + i) +ℤ middle_remaining a k)
          (let e : m + i / 2 ≡ (2 * m + i) / 2 = omega arith in e)
          ∙ h.sums (2 * m + i) (omega (arith, left, l))
          ∙ sym (total_later m i ps);
    }

-- the invariant of a player after m frames
pub ahead_later : (a b : Ahead) (ps : List PlayingVoice) (m : ℕ) → b.left + m ≡ a.left
    → ((qs : List PlayingVoice) → AreSums a qs → AreSums b (map (aged m) qs)) → IsAhead a ps → IsAhead b ps
ahead_later a b ps m left sums h = record {
  sums =
      subst (AreSums b) (sym (rewound-fewer a.left m b.left ps left h.given))
      (sums (map (rewound a.left) ps) h.sums);
  given = λ k d l. let g = h.given k d l in omega (arith, left, g);
  young = h.young;
  few = λ some. h.few (omega (arith, left, some));
}

pub playing_later : (a b : Ahead) (ps : List PlayingVoice) (m : ℕ) → b.left + m ≡ a.left → IsAhead a ps
    → playing_now b ps ≡ after_block (playing_now a ps) m
unfolding playing_now after_block
playing_later a b ps m left h =
    ap (filter is_sounding) (rewound-fewer a.left m b.left ps left h.given)
    ∙ sym (sounding_later m (map (rewound a.left) ps))

-- ---- what a player's calls do

pub none_playing : (a : Ahead) (ps : List PlayingVoice) → a.left ≡ 0 → playing_now a ps ≡ filter is_sounding ps
unfolding playing_now
none_playing a ps e = ap (λ n. filter is_sounding (map (rewound n) ps)) e ∙ ap (filter is_sounding) (rewound-none ps)

-- all voices have gone back
rewound_younger : (n m : ℕ) (ps : List PlayingVoice) → AllYounger m ps → AllYounger m (map (rewound n) ps)
unfolding rewound
rewound_younger n m ps young =
    All-map (λ (p : PlayingVoice). p.voice.age < m) (rewound n) ps
    (λ k d l. let g : (get_or ps k d).voice.age < m = young k d l in omega (arith, g))

pub rewound_ahead : (a b : Ahead) (ps : List PlayingVoice) → b.left ≡ 0 → IsAhead a ps
    → IsAhead b (map (rewound a.left) ps)
rewound_ahead a b ps e h = none_ahead b (map (rewound a.left) ps) e (rewound_younger a.left (2 ^ 33 + 1024) ps h.young)

pub rewound_playing : (a b : Ahead) (ps : List PlayingVoice) → b.left ≡ 0
    → playing_now b (map (rewound a.left) ps) ≡ playing_now a ps
unfolding playing_now
rewound_playing a b ps e = none_playing b (map (rewound a.left) ps) e

-- some voices are dropped, or none if frames remain
pub silenced_ahead : (a : Ahead) (ps new : List PlayingVoice) → (0 < a.left → list_any has_class new ≡ false)
    → IsAhead a ps → IsAhead a (unsilenced new ps)
unfolding unsilenced
silenced_ahead a ps new alone h = elim (cases_lt 0 a.left) [
  | inl some ↦ subst (IsAhead a) (sym (none_silenced new ps (alone some))) h
  | inr none ↦
      none_ahead a (unsilenced new ps) (omega (arith, none))
      (All-filter (λ q. not (silences new q)) (λ (p : PlayingVoice). p.voice.age < 2 ^ 33 + 1024) ps h.young)
]

pub silenced_playing : (a : Ahead) (ps new : List PlayingVoice)
    → playing_now a (unsilenced new ps) ≡ unsilenced new (playing_now a ps)
unfolding playing_now
silenced_playing a ps new = sym (unsilenced-rewound new a.left ps)

-- new voices have joined
given_all : (n : ℕ) (ps : List PlayingVoice) → All (λ (p : PlayingVoice). n ≤ p.voice.age) (map (aged n) ps)
unfolding aged
given_all n ps = All-map (λ (p : PlayingVoice). n ≤ p.voice.age) (aged n) ps (λ k d l. omega arith)

young_ahead : (n m : ℕ) (ps : List PlayingVoice) → n ≤ 1024 → AllYounger m ps → AllYounger (m + 1024) (map (aged n) ps)
unfolding aged
young_ahead n m ps le young =
    All-map (λ (p : PlayingVoice). p.voice.age < m + 1024) (aged n) ps
    (λ k d l. let g : (get_or ps k d).voice.age < m = young k d l in omega (arith, g, le))

both_lists : (n : ℕ) (ps new : List PlayingVoice) → map (rewound n) (ps ++ map (aged n) new) ≡ map (rewound n) ps ++ new
both_lists n ps new =
    map-append (rewound n) ps (map (aged n) new) ∙ ap (λ l. map (rewound n) ps ++ l) (rewound-aged n new)

pub started_ahead : (a b : Ahead) (ps new : List PlayingVoice) → b.left ≡ a.left → IsAhead a ps → AllYounger (2 ^ 33) new
    → (0 < a.left → length ps + length new ≤ 32767) → ((qs : List PlayingVoice) → AreSums a qs → AreSums b (qs ++ new))
    → IsAhead b (ps ++ map (aged a.left) new)
started_ahead a b ps new left h young few sums = record {
  sums =
      subst (AreSums b)
      (sym (both_lists a.left ps new) ∙ ap (λ n. map (rewound n) (ps ++ map (aged a.left) new)) (sym left))
      (sums (map (rewound a.left) ps) h.sums);
  given = subst (λ n. All (λ (p : PlayingVoice). n ≤ p.voice.age) (ps ++ map (aged a.left) new)) (sym left)
      (All-append (λ (p : PlayingVoice). a.left ≤ p.voice.age) ps (map (aged a.left) new) h.given (given_all a.left new));
  young =
      All-append (λ (p : PlayingVoice). p.voice.age < 2 ^ 33 + 1024) ps (map (aged a.left) new) h.young
      (young_ahead a.left (2 ^ 33) new h.sums.within.most young);
  few = λ some. let f : length ps + length new ≤ 32767 = few (omega (arith, left, some)) in
      omega (arith, f, length-append ps (map (aged a.left) new), length-map new (aged a.left));
}

pub started_playing : (a b : Ahead) (ps new : List PlayingVoice) → b.left ≡ a.left → AllSounding new
    → playing_now b (ps ++ map (aged a.left) new) ≡ playing_now a ps ++ new
unfolding playing_now
started_playing a b ps new left all =
    ap (λ n. filter is_sounding (map (rewound n) (ps ++ map (aged a.left) new))) left
    ∙ ap (filter is_sounding) (both_lists a.left ps new)
    ∙ filter-append is_sounding (map (rewound a.left) ps) new
    ∙ ap (λ l. filter is_sounding (map (rewound a.left) ps) ++ l) (filter_all new all)

-- frames of all voices have been summed
pub filled_ahead : (a : Ahead) (ps : List PlayingVoice) → length ps ≤ 32767 → AllYounger (2 ^ 33) ps → AreSums a ps
    → IsAhead a (map (aged a.left) ps)
filled_ahead a ps few young h = record {
  sums = subst (AreSums a) (sym (rewound-aged a.left ps)) h;
  given = given_all a.left ps;
  young = young_ahead a.left (2 ^ 33) ps h.within.most young;
  few = λ some. omega (arith, few, length-map ps (aged a.left));
}

pub filled_playing : (a : Ahead) (ps : List PlayingVoice) → AllSounding ps → playing_now a (map (aged a.left) ps) ≡ ps
unfolding playing_now
filled_playing a ps all = ap (filter is_sounding) (rewound-aged a.left ps) ∙ filter_all ps all

-- the first of the remaining frames
pub next_side_playing : (a : Ahead) (ps : List PlayingVoice) (k : ℕ)
    → next_side (map (rewound a.left) ps) k ≡ next_side (playing_now a ps) k
unfolding playing_now
next_side_playing a ps k = sym (next_sounding (map (rewound a.left) ps) k)

-- voices that are over have been dropped
pub dropped_playing : (a : Ahead) (ps : List PlayingVoice) → a.left ≡ 0
    → playing_now a (filter is_sounding ps) ≡ playing_now a ps
dropped_playing a ps e =
    none_playing a (filter is_sounding ps) e ∙ filter_all (filter is_sounding ps) (filter_passes is_sounding ps)
    ∙ sym (none_playing a ps e)

-- none of them is over
pub playing_sounds : (a : Ahead) (ps : List PlayingVoice) → AllSounding (playing_now a ps)
unfolding playing_now
playing_sounds a ps = filter_passes is_sounding (map (rewound a.left) ps)
