-- Which presets and instruments have given flat lists, and that no others have them.
use Rattle.std.proofs.Common.{◌≡◌, ℕ, ◌≤◌, ◌+◌, List, [], ◌∷◌, length, map, Option, Some, None, refl, sym, subst}
use Rattle.std.proofs.Common.{◌∙◌, ap, arith}
use Rattle.std.specs.Prelude.{MatchOption}
use Rattle.std.proofs.lemmas.List.{length-map}
use Rattle.std.specs.List.{AllByRecursion}
use Rattle.generators.specs.Levels.{target_operator}
use Rattle.generators.specs.declared.level.Level.{Level}
use Rattle.generators.specs.declared.level.Level.TheVariants as level
use Rattle.flat_records.specs.Bags.{Tables}
use Rattle.sf_base.specs.declared.name.Name20.{Name20}
use Rattle.bank_parts.specs.declared.parts.Head.{Head}
use Rattle.bank_parts.specs.declared.parts.ZoneOwner.{ZoneOwner}
use Rattle.bank_parts.specs.declared.parts.Parts.{Parts}
use Rattle.bank_parts.specs.Bagged.{IsPlainOwner}
use Rattle.bank_parts.specs.Sound.{IsSound}
use Rattle.bank_parts.specs.FlatLists.{AreFlat, lists_of, lists_with, owners_read}
use Rattle.bank_parts.proofs.SoundLaws.{presets_plain, instruments_plain}
use Rattle.bank_parts.proofs.ReadLaws.{read}
use Rattle.bank_parts.proofs.FromFlatLaws.{read_by}
use Rattle.bank_parts.proofs.FlatListLaws.{first_bags_size}
use Rattle.bank_core.specs.declared.flat_heads.HeadRecord.{HeadRecord}
use Rattle.bank_core.specs.declared.flat.Flat.{Flat}
use Rattle.bank_core.specs.Heads.{head_records, AreFlatOf}
use Rattle.bank_core.specs.Flat.{IsFlatOf}

-- ---- the heads, and the indexes of first bags

module _ {H : Type 0} where
  head_before : Option H → List H → List H
  head_before None hs = hs
  head_before (Some h) hs = h ∷ hs

  heads_of : List (HeadRecord H) → List H
  heads_of [] = []
  heads_of (r ∷ rs) = head_before r.head (heads_of rs)

  heads-back : (hs : List H) (ns : List ℕ) → length hs ≤ length ns → heads_of (head_records hs ns) ≡ hs
  unfolding heads_of head_before
  heads-back [] [] s = refl
  heads-back [] (n ∷ ns) s = heads-back [] ns (omega arith)
  heads-back (h ∷ hs) [] s = absurd (omega arith)
  heads-back (h ∷ hs) (n ∷ ns) s = ap (λ hs. h ∷ hs) (heads-back hs ns (omega arith))

  numbers_of : List (HeadRecord H) → List ℕ
  numbers_of rs = map (λ (r : HeadRecord H). r.first_bag) rs

  numbers-back : (hs : List H) (ns : List ℕ) → numbers_of (head_records hs ns) ≡ ns
  unfolding numbers_of
  numbers-back hs [] = refl
  numbers-back [] (n ∷ ns) = ap (λ ns. n ∷ ns) (numbers-back [] ns)
  numbers-back (h ∷ hs) (n ∷ ns) = ap (λ ns. n ∷ ns) (numbers-back hs ns)

  -- ---- their records and lists

  heads_within : (at : Level) (owners : List (ZoneOwner H))
      → length (map (λ (x : ZoneOwner H). x.head) owners) ≤ length (lists_of at owners).first_bags
  heads_within at owners = omega (arith, length-map owners (λ (x : ZoneOwner H). x.head), first_bags_size at owners)

  pub lists_by : (at : Level) (hs : List H) (ns : List ℕ) (t : Tables) (owners : List (ZoneOwner H))
      → length ns ≡ length hs + 1
      → AreFlatOf at (head_records hs ns) t owners
      → AreFlat at hs (record { first_bags = ns; bags = t.bags; gens = t.gens; mods = t.mods }) owners
  lists_by at hs ns t owners size are =
      let records = are.records in
      let first_bags =
      sym (numbers-back hs ns)
      ∙
      (ap numbers_of are.heads
      ∙ numbers-back (map (λ (x : ZoneOwner H). x.head) owners) (lists_of at owners).first_bags)
      in
      record {
        heads =
            sym (heads-back hs ns (omega arith))
            ∙
            (ap heads_of are.heads
            ∙ heads-back (map (λ (x : ZoneOwner H). x.head) owners) (lists_of at owners).first_bags
            (heads_within at owners));
        flat =
            λ i.
            record {
              first_bags =
                  first_bags i;
              bags = (records i).bags;
              gens = (records i).gens;
              mods = (records i).mods;
            };
      }

  pub records_by : (at : Level) (hs : List H) (ns : List ℕ) (t : Tables) (owners : List (ZoneOwner H))
      → AreFlat at hs (record { first_bags = ns; bags = t.bags; gens = t.gens; mods = t.mods }) owners
      → AreFlatOf at (head_records hs ns) t owners
  records_by at hs ns t owners are =
      let heads = are.heads in
      let flat = are.flat in
      record {
        heads = λ i. head_records (heads i) (flat i).first_bags;
        records = λ i. record { bags = (flat i).bags; gens = (flat i).gens; mods = (flat i).mods };
      }

  -- the presets or instruments, or the proof that there are none
  pub answered : (at : Level) (given : List (HeadRecord H)) (hs : List H) (ns : List ℕ) (t : Tables)
      (r : Option (List (ZoneOwner H)))
      → given ≡ head_records hs ns → length ns ≡ length hs + 1
      → MatchOption r
      ((owners : List (ZoneOwner H)) → AllByRecursion (IsPlainOwner (target_operator at)) owners
      → AreFlat at hs (record { first_bags = ns; bags = t.bags; gens = t.gens; mods = t.mods }) owners → ⊥)
      (λ owners. AreFlat at hs (record { first_bags = ns; bags = t.bags; gens = t.gens; mods = t.mods }) owners)
      → MatchOption r
      ((owners : List (ZoneOwner H)) → AllByRecursion (IsPlainOwner (target_operator at)) owners
      → AreFlatOf at given t owners → ⊥)
      (λ owners. AreFlatOf at given t owners)
  answered at given hs ns t None e size none =
      λ owners plain are.
      none owners plain (lists_by at hs ns t owners size (subst (λ rs. AreFlatOf at rs t owners) e are))
  answered at given hs ns t (Some owners) e size are =
      subst (λ rs. AreFlatOf at rs t owners) (sym e) (records_by at hs ns t owners are)

  -- owners are those read from their lists
  owners_back : (at : Level) (hs : List H) (ns : List ℕ) (t : Tables) (owners : List (ZoneOwner H))
      → AreFlat at hs (lists_with ns t) owners → AllByRecursion (IsPlainOwner (target_operator at)) owners
      → owners_read at hs ns t ≡ owners
  owners_back at hs ns t owners are plain =
      read (record { heads = are.heads; bags = read_by at hs ns t owners are; plain = plain })

  -- the lists of records are those of the owners read from them
  pub record Given (at : Level) (hs : List H) (ns : List ℕ) (t : Tables) (owners : List (ZoneOwner H)) : Type 0 where
    pub same : owners_read at hs ns t ≡ owners
    pub lists : AreFlat at hs (lists_with ns t) (owners_read at hs ns t)
    pub plain : AllByRecursion (IsPlainOwner (target_operator at)) (owners_read at hs ns t)

  given : (at : Level) (rs : List (HeadRecord H)) (hs : List H) (ns : List ℕ) (t : Tables) (owners : List (ZoneOwner H))
      → rs ≡ head_records hs ns → length ns ≡ length hs + 1 → AreFlatOf at rs t owners
      → AllByRecursion (IsPlainOwner (target_operator at)) owners → Given at hs ns t owners
  given at rs hs ns t owners e size are plain =
      let lists = lists_by at hs ns t owners size (subst (λ rs. AreFlatOf at rs t owners) e are) in
      let same = owners_back at hs ns t owners lists plain in
      record {
        same = same;
        lists = subst (AreFlat at hs (lists_with ns t)) (sym same) lists;
        plain = subst (AllByRecursion (IsPlainOwner (target_operator at))) (sym same) plain;
      }

  -- the presets or instruments with these records
  owners_at : Level → List (HeadRecord H) → Tables → List (ZoneOwner H)
  owners_at at rs t = owners_read at (heads_of rs) (numbers_of rs) t

  owners_there : (at : Level) (rs : List (HeadRecord H)) (t : Tables) (owners : List (ZoneOwner H))
      → AllByRecursion (IsPlainOwner (target_operator at)) owners → AreFlatOf at rs t owners
      → owners_at at rs t ≡ owners
  unfolding owners_at
  owners_there at rs t owners plain are =
      let names = map (λ (x : ZoneOwner H). x.head) owners in
      let numbers = (lists_of at owners).first_bags in
      let heads : heads_of rs ≡ names = ap heads_of are.heads ∙ heads-back names numbers (heads_within at owners) in
      let first_bags : numbers_of rs ≡ numbers = ap numbers_of are.heads ∙ numbers-back names numbers in
      let records = are.records in
      let lists : AreFlat at names (lists_with numbers t) owners =
      record { heads = refl; flat = λ i. lists_with numbers (records i) } in
      (λ i. owners_read at (heads i) (first_bags i) t) ∙ owners_back at names numbers t owners lists plain

-- ---- a whole bank

-- the bank with these lists
pub bank_in : Flat → Parts
bank_in f = record {
  minor = f.minor;
  texts = f.texts;
  presets = owners_at level.Preset f.preset_heads f.preset;
  instruments = owners_at level.Inst f.inst_heads f.inst;
  samples = f.samples;
}

-- a bank with these lists, and the presets and instruments of b, is b
pub same_parts : (f : Flat) (b : Parts) (presets : List (ZoneOwner Head)) (instruments : List (ZoneOwner Name20))
    → IsFlatOf f b → presets ≡ b.presets → instruments ≡ b.instruments
    → record
    { minor = f.minor; texts = f.texts; presets = presets; instruments = instruments; samples = f.samples } ≡ b
same_parts f b presets instruments are same_presets same_instruments =
    let minor = are.minor in
    let texts = are.texts in
    let samples = are.samples in
    λ i. record {
      minor = minor i;
      texts = texts i;
      presets = same_presets i;
      instruments = same_instruments i;
      samples = samples i;
    }

bank_there : (f : Flat) (b : Parts) → AllByRecursion (IsPlainOwner (target_operator level.Preset)) b.presets
    → AllByRecursion (IsPlainOwner (target_operator level.Inst)) b.instruments → IsFlatOf f b → bank_in f ≡ b
unfolding bank_in
bank_there f b plain_presets plain_instruments are =
    same_parts f b _ _ are (owners_there level.Preset _ _ b.presets plain_presets are.presets)
    (owners_there level.Inst _ _ b.instruments plain_instruments are.instruments)

-- no other bank has the same lists
pub same_bank : (f : Flat) (b c : Parts) → IsSound b
    → AllByRecursion (IsPlainOwner (target_operator level.Preset)) c.presets
    → AllByRecursion (IsPlainOwner (target_operator level.Inst)) c.instruments
    → IsFlatOf f b → IsFlatOf f c → b ≡ c
same_bank f b c s presets_too instruments_too are are_too =
    sym (bank_there f b (presets_plain b s) (instruments_plain b s) are)
    ∙ bank_there f c presets_too instruments_too are_too

-- the bank of the lists of a sound bank is that bank
pub sound_bank_there : (f : Flat) (b : Parts) → IsSound b → IsFlatOf f b → bank_in f ≡ b
sound_bank_there f b sound are = bank_there f b (presets_plain b sound) (instruments_plain b sound) are

-- ---- as the code reads the lists

pub presets_given : (f : Flat) (b : Parts) (hs : List Head) (ns : List ℕ) → IsSound b → IsFlatOf f b
    → f.preset_heads ≡ head_records hs ns → length ns ≡ length hs + 1 → Given level.Preset hs ns f.preset b.presets
presets_given f b hs ns sound are e size =
    given level.Preset f.preset_heads hs ns f.preset b.presets e size are.presets (presets_plain b sound)

pub instruments_given : (f : Flat) (b : Parts) (hs : List Name20) (ns : List ℕ) → IsSound b → IsFlatOf f b
    → f.inst_heads ≡ head_records hs ns → length ns ≡ length hs + 1 → Given level.Inst hs ns f.inst b.instruments
instruments_given f b hs ns sound are e size =
    given level.Inst f.inst_heads hs ns f.inst b.instruments e size are.instruments (instruments_plain b sound)
