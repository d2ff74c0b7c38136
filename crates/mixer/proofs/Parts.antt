-- A block in parts.
use Rattle.std.proofs.Common.{◌≡◌, ℕ, suc, cond, filter, ◌+◌, ◌*◌, ◌/◌, ◌%◌, ◌<◌, ◌≤◌, ℤ, pos, List, [], ◌∷◌, map}
use Rattle.std.proofs.Common.{length, get_or, nat_eq, refl, sym, ap, ◌∙◌, subst, arith}
use Rattle.std.specs.List.{range_with_len}
use Rattle.std.proofs.lemmas.List.{nil_from_length}
use Rattle.std.proofs.lemmas.List.FromFn.{fill_by_all}
use Rattle.voices.specs.Sound.{snd}
use Rattle.mixer.specs.declared.playing.PlayingVoice.{PlayingVoice}
use Rattle.mixer.specs.StartFrames.{is_left, clipped}
use Rattle.mixer.specs.Events.{is_sounding, after_block, aged, total_at, next_side, block}
use Rattle.mixer.specs.KeptVoices.{AllSounding}
use Rattle.mixer.proofs.Sums.{sum_over-map, sum_over-same}

aged-zero : (p : PlayingVoice) → p ≡ aged 0 p
unfolding aged
aged-zero p =
    λ j.
    record {
      voice =
          record { value = p.voice.value; age = (let e : p.voice.age ≡ p.voice.age + 0 = omega arith in e) j };
      bank =
          p.bank;
      number = p.number;
      handle = p.handle;
    }

pub aged-none : (ps : List PlayingVoice) → ps ≡ map (aged 0) ps
aged-none [] = refl
aged-none (p ∷ ps) = λ j. aged-zero p j ∷ aged-none ps j

aged-twice : (m n : ℕ) (p : PlayingVoice) → aged n (aged m p) ≡ aged (m + n) p
unfolding aged
aged-twice m n p =
    λ j.
    record {
      voice =
          record {
            value =
                p.voice.value;
            age =
                (let e : p.voice.age + m + n ≡ p.voice.age + (m + n) = omega arith in e) j;
          };
      bank =
          p.bank;
      number = p.number;
      handle = p.handle;
    }

pub aged-more : (m n : ℕ) (ps : List PlayingVoice) → map (aged n) (map (aged m) ps) ≡ map (aged (m + n)) ps
aged-more m n [] = refl
aged-more m n (p ∷ ps) = λ j. aged-twice m n p j ∷ aged-more m n ps j

pub side_later : (at j : ℕ) (ps : List PlayingVoice) → at % 2 ≡ 0
    → next_side (map (aged (at / 2)) ps) j ≡ next_side ps (at + j)
unfolding next_side total_at aged
side_later at j ps even =
    ap clipped (sum_over-map (λ p. snd p.voice.value (is_left j) (p.voice.age + j / 2)) (aged (at / 2)) ps
    ∙ sum_over-same (λ p. snd p.voice.value (is_left j) (p.voice.age + at / 2 + j / 2))
    (λ p. snd p.voice.value (is_left (at + j)) (p.voice.age + (at + j) / 2))
    (λ p. λ i. snd p.voice.value (nat_eq ((let e : j % 2 ≡ (at + j) % 2 = omega arith in e) i) 0)
    ((let e : p.voice.age + at / 2 + j / 2 ≡ p.voice.age + (at + j) / 2 = omega arith in e) i)) ps)

pub block_written : (out : List ℤ) (ps : List PlayingVoice) (at n : ℕ) → length out ≡ n → n ≤ at → n % 2 ≡ 0
    → ((k : ℕ) → k < at → get_or out k (pos 0) ≡ next_side ps k) → out ≡ block ps (n / 2)
unfolding block
block_written out ps at n len le even done =
    fill_by_all (next_side ps) out n (pos 0) len (λ k h. done k (omega arith))
    ∙ ap (λ m. map (next_side ps) (range_with_len 0 m)) (let e : n ≡ 2 * (n / 2) = omega arith in e)

pub filter_all : (ps : List PlayingVoice) → AllSounding ps → filter is_sounding ps ≡ ps
filter_all [] all = refl
filter_all (p ∷ ps) all =
    ap (λ b. cond b (p ∷ filter is_sounding ps) (filter is_sounding ps)) (all 0 p (omega arith))
    ∙ ap (λ l. p ∷ l) (filter_all ps (λ k d h. all (suc k) d (omega (arith, h))))

-- if no voice is over, a block of no frames changes nothing
pub nothing_given : (ps : List PlayingVoice) → AllSounding ps → after_block ps 0 ≡ ps
unfolding after_block
nothing_given ps all = ap (filter is_sounding) (sym (aged-none ps)) ∙ filter_all ps all

pub nothing_after : (n : ℕ) (ps : List PlayingVoice) → n ≡ 0 → AllSounding ps → after_block ps (n / 2) ≡ ps
nothing_after n ps e all = ap (λ m. after_block ps (m / 2)) e ∙ nothing_given ps all

block_none : (ps : List PlayingVoice) → [] ≡ block ps 0
unfolding block
block_none ps = refl

-- an empty block is complete
pub empty_block : (out : List ℤ) (ps : List PlayingVoice) → length out ≡ 0 → out ≡ block ps (length out / 2)
empty_block out ps e =
    let P : List ℤ → Type 0 = λ zs. zs ≡ block ps (length zs / 2) in
    subst P (sym (nil_from_length out e)) (block_none ps)
