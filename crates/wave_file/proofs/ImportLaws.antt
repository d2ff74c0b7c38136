-- The names of imported samples, and the chunks that are present.
use Rattle.std.proofs.Common.{◌≡◌, ◌≤◌, ◌<◌, ◌↔◌, ◌+◌, ◌*◌, ◌%◌, ℕ, Bool, true, false, cond, ltb, zero, suc, List}
use Rattle.std.proofs.Common.{[], ◌∷◌, ◌++◌, length, take, drop, get_or, Fits, w8, Option, Some, None, MatchOption}
use Rattle.std.proofs.Common.{IsSome, Result, Ok, Err, refl, ap, arith}
use Rattle.std.specs.List.{AllByRecursion, Contains}
use Rattle.std.specs.Result.{IsOk}
use Rattle.std.proofs.lemmas.List.{length-append, length-take, length-drop, get_or_default}
use Rattle.sf_base.specs.declared.name.NameFault.{NameFault}
use Rattle.sf_base.specs.declared.name.NameFault.TheVariants.{TooLong, ZeroByte}
use Rattle.sf_base.specs.Names.{before_zero, IsTextByte, IsText, IsName}
use Rattle.sf_base.specs.declared.limits.TheConstants.{SAMPLES}
use Rattle.edit_forms.specs.declared.edit.Edit.{Edit}
use Rattle.wave_file.specs.declared.recording.Channels.{Channels}
use Rattle.wave_file.specs.declared.recording.Channels.TheVariants.{Mono, MonoSamples, Stereo}
use Rattle.wave_file.specs.declared.recording.Sampler.{Sampler}
use Rattle.wave_file.specs.declared.recording.Recording.{Recording}
use Rattle.wave_file.specs.Imports.{channel_edits, import_edits}
use Rattle.hydra_records.specs.Records.{AreBytes}
use Rattle.bank_format.proofs.AllLaws.{all-append}
use Rattle.bank_format.proofs.NameLaws.{before_zero-bytes, length-before_zero}
use Rattle.bank_format.proofs.ReadBytes.{take_bytes, in_turn}

-- the elements of a `u8` slice are bytes
pub are_bytes : (xs : List ℕ) → ((i : ℕ) → Fits w8 (get_or xs i 0)) → AreBytes xs
are_bytes xs fits =
    λ k d lt. let here =
    fits k in let small : get_or xs k 0 < 256 = omega (arith, here) in rw (get_or_default xs k d 0 lt) small

-- an option that is not `None` is `Some`
pub is_there : {X P : Type 0} (Q : X → Type 0) (o : Option X) → MatchOption o P Q → (P → ⊥) → IsSome o
is_there Q None h none = absurd (none h)
is_there Q (Some x) h none = refl

-- the loops of a `smpl` chunk that holds them are whole records
pub loops_whole : (s loops : List ℕ) (n m : ℕ) → n ≡ m → 36 + 24 * m ≤ length s → loops ≡ take (24 * n) (drop 36 s)
    → length loops % 24 ≡ 0
loops_whole s loops n m e h is =
    let l = ap length is in
    let a = length-take (24 * n) (drop 36 s) in
    let b = length-drop 36 s in
    omega (arith, e, h, l, a, b)

-- ---- names

no_zero_at : (text : List ℕ) (k : ℕ) → AllByRecursion IsTextByte text → k < length text → get_or text k 0 ≡ 0 → ⊥
no_zero_at [] k h lt e = omega (arith, lt)
no_zero_at (b ∷ text) zero h lt e = let some = h.0.0 in omega (arith, e, some)
no_zero_at (b ∷ text) (suc k) h lt e = no_zero_at text k h.1 (omega (arith, lt)) e

-- a name is accepted
pub name_ok : (text : List ℕ) (r : Result (List ℕ) NameFault) → IsName text → ((r ≡ Err TooLong) ↔ (20 < length text))
    → ((r ≡ Err ZeroByte) ↔ ((length text ≤ 20) × Contains text 0)) → IsOk r
name_ok text (Ok name) named long none = refl
name_ok text (Err TooLong) named long none =
    absurd (let h = long.0 refl in let short = named.0 in omega (arith, short, h))
name_ok text (Err ZeroByte) named long none = let z = (none.0 refl).1 in absurd (no_zero_at text z.0 named.1 z.1 z.2)

-- the bytes before the first zero byte among the first n
pub truncated_text : (n : ℕ) (bytes : List ℕ) → AreBytes bytes → IsText n (before_zero (take n bytes))
truncated_text n bytes b =
    let l = length-before_zero (take n bytes) in
    let t = length-take n bytes in
    (omega (arith, l, t), before_zero-bytes (take n bytes) (in_turn (take n bytes) (take_bytes n bytes b)))

pub side_named : (own side : List ℕ) → IsText 18 own → length side ≡ 2 → AllByRecursion IsTextByte side
    → IsName (own ++ side)
side_named own side o two s =
    let l = length-append own side in
    let short = o.0 in
    (omega (arith, l, short, two), all-append IsTextByte own side o.1 s)

pub own_short : (name own : List ℕ) → AreBytes name → own ≡ before_zero (take 18 name) → IsText 18 own
own_short name own b e = rw e (truncated_text 18 name b)

-- ---- the edits

few_of : (test : Bool) (x y z : Edit) → length (cond test (x ∷ y ∷ z ∷ []) (x ∷ [])) ≤ 3
few_of true x y z = omega arith
few_of false x y z = omega arith

few_of_channels : (n : ℕ) (name : List ℕ) (rate : ℕ) (sampler : Sampler) (channels : Channels)
    → length (channel_edits n name rate sampler channels) ≤ 3
few_of_channels n name rate sampler (Mono points) = omega arith
few_of_channels n name rate sampler (MonoSamples points) = omega arith
few_of_channels n name rate sampler (Stereo left right) = few_of (ltb n SAMPLES) _ _ _

pub few_edits : (n : ℕ) (name : List ℕ) (r : Recording) → length (import_edits n name r) ≤ 3
unfolding import_edits
few_edits n name r = few_of_channels n name r.rate r.sampler r.channels
