-- The running indexes of a bank's tables pass the index checks, and the targets of its zones the target checks.
use Rattle.std.proofs.Common.{◌≡◌, ◌≤◌, ◌+◌, ◌-◌, ℕ, suc, true, leb, ltb, List, [], ◌∷◌, length, map, None, refl}
use Rattle.std.proofs.Common.{sym, ap, ◌∙◌, arith}
use Rattle.std.specs.Prelude.{flat_map, nat_le}
use Rattle.std.specs.List.{AllByRecursion, list_all}
use Rattle.std.proofs.lemmas.Bool.{le-leb, lt-ltb}
use Rattle.std.proofs.lemmas.List.{length-append}
use Rattle.generators.specs.declared.level.Level.{Level}
use Rattle.generators.specs.declared.level.Level.TheVariants as level
use Rattle.bank_parts.specs.Valid.{IsOwner, IsValid, IsZone}
use Rattle.bank_parts.specs.declared.parts.Zone.{Zone}
use Rattle.bank_parts.specs.declared.parts.Head.{Head}
use Rattle.bank_parts.specs.declared.parts.ZoneOwner.{ZoneOwner}
use Rattle.bank_parts.specs.declared.parts.Parts.{Parts}
use Rattle.hydra_records.specs.declared.head.PresetHead.{PresetHead}
use Rattle.hydra_records.specs.declared.head.InstrumentHead.{InstrumentHead}
use Rattle.hydra_records.specs.declared.zone.Bag.{Bag}
use Rattle.bank_format.specs.declared.fault.ReadFault.{ReadFault}
use Rattle.bank_format.specs.declared.fault.ReadFault.TheVariants as fault
use Rattle.bank_format.specs.FaultChecks.{first_fault}
use Rattle.bank_format.specs.Windows.{ends, starts}
use Rattle.bank_format.specs.Zones.{Bagged}
use Rattle.bank_format.specs.Tables.{bag, bag_list, gen_list, mod_list, generator_end, modulator_end, bags_of}
use Rattle.bank_format.specs.Tables.{all_bags, heads_from, presets, instruments, tables_of}
use Rattle.bank_format.specs.ReadChecks.{is_rising_from, index_checks, bag_checks, all_index_checks, target_check}
use Rattle.bank_format.specs.ReadChecks.{targets_of, target_checks}
use Rattle.bank_format.proofs.AllLaws.{all-flat_map}
use Rattle.bank_format.proofs.CheckLaws.{then_none}
use Rattle.bank_format.proofs.WindowLaws.{sizes, total, length-flat, length-starts, length-zip_with}
use Rattle.bank_format.proofs.TableLaws.{gens_in_bag, mods_in_bag, gen_indexes, mod_indexes, head_indexes}

rising : (at : ℕ) (ns : List ℕ) → is_rising_from at (ends at ns) ≡ true
rising at [] = refl
rising at (n ∷ ns) = let e : leb at (at + n) ≡ true = le-leb _ _ (omega arith) in rw e (rising (at + n) ns)

below : (at most : ℕ) (ns : List ℕ) → at + total ns ≤ most → list_all (λ i. nat_le i most) (ends at ns) ≡ true
below at most [] h = refl
below at most (n ∷ ns) h =
    let e : leb (at + n) most ≡ true = le-leb _ _ (omega arith) in rw e (below (at + n) most ns (omega arith))

starts_hold : (ns : List ℕ) (n : ℕ) → n ≡ total ns + 1 → first_fault (index_checks (starts ns) n) ≡ None
unfolding index_checks
starts_hold ns n e =
    let r = rising 0 ns in
    let zero_first : leb 0 0 ≡ true = refl in
    let b = below 0 (n - 1) ns (omega (arith, e)) in
    let z : leb 0 (n - 1) ≡ true = le-leb _ _ (omega arith) in
    rw (r, z, b) refl

bag_steps_hold : (bags : List Bagged)
    → first_fault (bag_checks (bag_list bags) (length (gen_list bags)) (length (mod_list bags))) ≡ None
unfolding gen_list mod_list
bag_steps_hold bags =
    let g = length-flat gens_in_bag bags in
    let m = length-flat mods_in_bag bags in
    let gens : first_fault (index_checks (map (λ (r : Bag). r.gens) (bag_list bags)) (length (gen_list bags))) ≡ None =
    ap (λ (is : List ℕ). first_fault (index_checks is (length (gen_list bags)))) (gen_indexes bags)
    ∙ starts_hold (sizes gens_in_bag bags) (length (gen_list bags))
    (let a = length-append (flat_map gens_in_bag bags) (generator_end ∷ []) in omega (arith, a, g)) in
    let mods : first_fault (index_checks (map (λ (r : Bag). r.mods) (bag_list bags)) (length (mod_list bags))) ≡ None =
    ap (λ (is : List ℕ). first_fault (index_checks is (length (mod_list bags)))) (mod_indexes bags)
    ∙ starts_hold (sizes mods_in_bag bags) (length (mod_list bags))
    (let a = length-append (flat_map mods_in_bag bags) (modulator_end ∷ []) in omega (arith, a, m)) in
    then_none (index_checks (map (λ (r : Bag). r.gens) (bag_list bags)) (length (gen_list bags))) _ gens mods

pub length-bag_list : (bags : List Bagged) → length (bag_list bags) ≡ suc (length bags)
unfolding bag_list
length-bag_list bags =
    let a = length-starts gens_in_bag bags in
    let b = length-starts mods_in_bag bags in
    length-zip_with bag (starts (sizes gens_in_bag bags)) (starts (sizes mods_in_bag bags)) (a ∙ sym b) ∙ a

head_steps_hold : {Y : Type 0} (f : Y → List Bagged) (ys : List Y) (is : List ℕ) → is ≡ starts (sizes f ys)
    → first_fault (index_checks is (length (bag_list (flat_map f ys)))) ≡ None
head_steps_hold f ys is e =
    let n = length (bag_list (flat_map f ys)) in
    ap (λ (js : List ℕ). first_fault (index_checks js n)) e
    ∙ starts_hold (sizes f ys) n
    (let a = length-bag_list (flat_map f ys) in let t = length-flat f ys in omega (arith, a, t))

pub index_steps_hold : (b : Parts) → first_fault (all_index_checks (tables_of b)) ≡ None
unfolding all_index_checks tables_of
index_steps_hold b =
    let pbags = all_bags level.Preset b.presets in
    let ibags = all_bags level.Inst b.instruments in
    then_none
    (index_checks (map (λ (h : PresetHead). h.bag) (heads_from presets 0 b.presets)) (length (bag_list pbags))) _
    (head_steps_hold (bags_of level.Preset) b.presets _ (head_indexes presets (λ n x. refl) (λ n. refl) 0 b.presets))
    (then_none (bag_checks (bag_list pbags) (length (gen_list pbags)) (length (mod_list pbags))) _ (bag_steps_hold pbags)
    (then_none (index_checks (map (λ (h : InstrumentHead). h.bag) (heads_from instruments 0 b.instruments))
    (length (bag_list ibags))) _
    (head_steps_hold (bags_of level.Inst) b.instruments _
    (head_indexes instruments (λ n x. refl) (λ n. refl) 0 b.instruments))
    (bag_steps_hold ibags)))

-- ---- targets

targets_hold : (at : Level) (n : ℕ) (f : ReadFault) (zs : List Zone) → AllByRecursion (IsZone at n) zs
    → first_fault (map (target_check n f) zs) ≡ None
targets_hold at n f [] v = refl
targets_hold at n f (z ∷ zs) v =
    let e : ltb z.target n ≡ true = lt-ltb _ _ v.0.target in rw e (targets_hold at n f zs v.1)

owner_targets_hold : {H : Type 0} (name_of : H → List ℕ) (at : Level) (n : ℕ) (f : ReadFault)
    (xs : List (ZoneOwner H))
    → AllByRecursion (IsOwner name_of at n) xs → first_fault (targets_of n f xs) ≡ None
owner_targets_hold name_of at n f xs v =
    targets_hold at n f _
    (all-flat_map (IsZone at n) (IsOwner name_of at n) (λ x. x.zones) (λ x q. q.zones.zones) xs v)

pub target_steps_hold : (b : Parts) → IsValid b → first_fault (target_checks b) ≡ None
unfolding target_checks
target_steps_hold b v =
    then_none (targets_of (length b.instruments) fault.BadInstrument b.presets) _
    (owner_targets_hold (λ (x : Head). x.name) level.Preset (length b.instruments) fault.BadInstrument b.presets
    v.presets)
    (owner_targets_hold (λ name. name) level.Inst (length b.samples) fault.BadSample b.instruments v.instruments)
