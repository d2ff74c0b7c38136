-- Reading the presets or the instruments, header by header.
use Rattle.std.proofs.Common.{◌≡◌, ◌+◌, ◌-◌, ◌∙◌, ℕ, suc, List, [], ◌∷◌, ◌++◌, length, map, Some, None, Option}
use Rattle.std.proofs.Common.{Result, IsSome, refl, sym, ap, subst, append_assoc, append-nil, arith}
use Rattle.std.specs.Prelude.{flat_map, MatchOption}
use Rattle.std.specs.List.{slice_range}
use Rattle.std.specs.Result.{IsErrAnd}
use Rattle.std.proofs.lemmas.List.{map-append, length-append, length-map, flat_map_more}
use Rattle.std.proofs.lemmas.List.Sums.{sum_by-cons}
use Rattle.generators.specs.declared.level.Level.{Level}
use Rattle.modulators.specs.declared.modulator.Modulator.{Modulator}
use Rattle.hydra_records.specs.declared.zone.Bag.{Bag}
use Rattle.hydra_records.specs.declared.zone.Generator.{Generator}
use Rattle.flat_records.specs.Runs.{starts}
use Rattle.flat_records.specs.Bags as flat
use Rattle.flat_records.proofs.Starts.{length-starts}
use Rattle.flat_records.specs.Owned.{past_owner, all_bags}
use Rattle.sf_base.specs.declared.memory.Failure.{Failure}
use Rattle.bank_core.specs.Heads.{head_records}
use Rattle.bank_format.specs.declared.fault.ReadFault.{ReadFault}
use Rattle.bank_format.specs.FaultChecks.{first_fault, Fails, PassesOrOutOfMemory}
use Rattle.bank_format.specs.Windows.{windows, without_terminal}
use Rattle.bank_format.specs.Zones.{Bagged, zones_read, ignored, gens_dropped, repaired_range_count}
use Rattle.bank_format.specs.Tables.{Headers}
use Rattle.bank_format.specs.Reading.{bags_in}
use Rattle.bank_format.specs.ReadChecks.{target_check}
use Rattle.sf_reader.specs.declared.zones.ZoneCounts.{ZoneCounts}
use Rattle.sf_reader.specs.declared.owners.OwnersSoFar.{OwnersSoFar}
use Rattle.sf_reader.specs.declared.owners.OwnersRead.{OwnersRead}
use Rattle.sf_reader.specs.Bags.{counts_read, own_bags, checks_of_bags}
use Rattle.sf_reader.specs.Records.{AreSoFar}
use Rattle.sf_reader.specs.declared.hydra.LevelTables.{LevelTables}
use Rattle.sf_reader.specs.Owners.{AreSmall, added, counts_over, AreOwnersSoFar, AppendsOwner, AreEnded, FlatOwners}
use Rattle.sf_reader.specs.Owners.{owners_seen, owners_with_counts, zone_checks, window_of}
use Rattle.sf_reader.proofs.BagAppends.{bags_so_far}
use Rattle.bank_format.proofs.CheckLaws.{first_fault-append}
use Rattle.sf_reader.proofs.CheckLaws.{fails_front, given_by}
use Rattle.sf_reader.proofs.CountLaws.{AreFew, part-small}
use Rattle.sf_reader.proofs.WindowLaws.{slice-bags_in, length-without_terminal, length-windows}

-- ---- counts

counts_over-next : (at : Level) (w : List Bagged) (ws : List (List Bagged))
    → counts_over at (w ∷ ws) ≡ added (counts_read at w) (counts_over at ws)
counts_over-next at w ws =
    let zones = sum_by-cons (ignored at) w ws in
    let gens = sum_by-cons (gens_dropped at) w ws in
    let ranges = sum_by-cons (repaired_range_count at) w ws in
    λ i. record { zones = zones i; gens = gens i; ranges = ranges i }

added-assoc : (a b c : ZoneCounts) → added (added a b) c ≡ added a (added b c)
added-assoc a b c =
    let zones : a.zones + b.zones + c.zones ≡ a.zones + (b.zones + c.zones) = omega arith in
    let gens : a.gens + b.gens + c.gens ≡ a.gens + (b.gens + c.gens) = omega arith in
    let ranges : a.ranges + b.ranges + c.ranges ≡ a.ranges + (b.ranges + c.ranges) = omega arith in
    λ i. record { zones = zones i; gens = gens i; ranges = ranges i }

abbrev pub no_counts : ZoneCounts
no_counts = record { zones = 0; gens = 0; ranges = 0 }

none-added : (c : ZoneCounts) → added no_counts c ≡ c
none-added c =
    let zones : 0 + c.zones ≡ c.zones = omega arith in
    let gens : 0 + c.gens ≡ c.gens = omega arith in
    let ranges : 0 + c.ranges ≡ c.ranges = omega arith in
    λ i. record { zones = zones i; gens = gens i; ranges = ranges i }

added-none : (c : ZoneCounts) → added c no_counts ≡ c
added-none c =
    let zones : c.zones + 0 ≡ c.zones = omega arith in
    let gens : c.gens + 0 ≡ c.gens = omega arith in
    let ranges : c.ranges + 0 ≡ c.ranges = omega arith in
    λ i. record { zones = zones i; gens = gens i; ranges = ranges i }

-- ---- lists

without_terminal-next : {H : Type 0} (h n : H) (ns : List H) → without_terminal (h ∷ n ∷ ns) ≡ h ∷ without_terminal (n ∷ ns)
without_terminal-next h n ns =
    let count : length (h ∷ n ∷ ns) - 1 ≡ suc (length (n ∷ ns) - 1) = omega arith in
    rw count refl

-- the checks of the first header's zones, then those of the others
zone_checks-next : (at : Level) (targets : ℕ) (missing : ReadFault) (w : List Bagged) (ws : List (List Bagged))
    → zone_checks at targets missing (w ∷ ws)
    ≡ map (target_check targets missing) (zones_read at w) ++ zone_checks at targets missing ws
zone_checks-next at targets missing w ws =
    map-append (target_check targets missing) (zones_read at w) (flat_map (zones_read at) ws)

-- ---- appending one owner

pub pushed_as : {X : Type 0} (old new : List X) (x y : X) → new ≡ old ++ x ∷ [] → x ≡ y → new ≡ old ++ y ∷ []
pushed_as old new x y e is = e ∙ ap (λ z. old ++ z ∷ []) is

-- the starts of an appended list end with its total
begins-last : (at : ℕ) (owners : List (List flat.Bag)) (own : List flat.Bag)
    → starts past_owner at (owners ++ own ∷ [])
    ≡ starts past_owner at owners ++ (at + length (all_bags (owners ++ own ∷ []))) ∷ []
begins-last at [] own =
    let here : at + length own ≡ at + length (own ++ []) = ap (λ bs. at + length bs) (sym (append-nil own)) in
    λ i. at ∷ here i ∷ []
begins-last at (x ∷ xs) own =
    let past : (at + length x) + length (all_bags (xs ++ own ∷ [])) ≡ at + length (x ++ all_bags (xs ++ own ∷ [])) =
    omega (arith, length-append x (all_bags (xs ++ own ∷ []))) in
    ap (λ ns. at ∷ ns) (begins-last (past_owner at x) xs own)
    ∙ (λ i. at ∷ (starts past_owner (past_owner at x) xs ++ past i ∷ []))

pub one_more : {H : Type 0} (old new : OwnersSoFar H) (hs : List H) (owners : List (List flat.Bag)) (c : ZoneCounts)
    (head : H) (own : List flat.Bag) (more : ZoneCounts)
    → AreOwnersSoFar old hs owners c → AppendsOwner old new head own more
    → AreOwnersSoFar new (hs ++ head ∷ []) (owners ++ own ∷ []) (added c more)
one_more old new hs owners c head own more are adds =
    let all : all_bags owners ++ own ≡ all_bags (owners ++ own ∷ []) =
    flat_map_more (λ (bs : List flat.Bag). bs) [] owners own in
    let records = subst (AreSoFar new.records) all (adds.records_grow (all_bags owners) are.records_are) in
    let count : length new.records.bags.items - 1 ≡ 0 + length (all_bags (owners ++ own ∷ [])) =
    omega (arith, bags_so_far new.records (all_bags (owners ++ own ∷ [])) records) in
    record {
      heads_are = adds.heads_grow ∙ ap (λ xs. xs ++ head ∷ []) are.heads_are;
      first_bags_are =
          adds.first_bags_grow ∙ (λ i. are.first_bags_are i ++ count i ∷ []) ∙ sym (begins-last 0 owners own);
      records_are = records;
      counts_are = adds.counts_grow ∙ ap (λ (d : ZoneCounts). added d more) are.counts_are;
    }

are_as : {H : Type 0} (r : OwnersSoFar H) (hs names : List H) (bs owners : List (List flat.Bag)) (b c : ZoneCounts)
    → hs ≡ names → bs ≡ owners → b ≡ c → AreOwnersSoFar r hs bs b → AreOwnersSoFar r names owners c
are_as r hs names bs owners b c heads bags counts are = record {
  heads_are = are.heads_are ∙ heads;
  first_bags_are = are.first_bags_are ∙ ap (starts past_owner 0) bags;
  records_are = subst (λ (l : List (List flat.Bag)). AreSoFar r.records (all_bags l)) bags are.records_are;
  counts_are = are.counts_are ∙ counts;
}

-- ---- all owners

-- lemmas about `MatchOption`
pub found : {X : Type 0} (P : Type 0) (Q : X → Type 0) (o : Option X) → MatchOption o (P → ⊥) Q → P → IsSome o
found P Q None h p = absurd (h p)
found P Q (Some x) h p = refl

pub found_that : {X : Type 0} (P : Type 0) (Q : X → Type 0) (o : Option X) (x : X) → MatchOption o (P → ⊥) Q
    → o ≡ Some x → Q x
found_that P Q o x h e = subst (λ p. MatchOption p (P → ⊥) Q) e h

-- there is one start more than heads
pub places : {H : Type 0} (r : OwnersSoFar H) (hs : List H) (owners : List (List flat.Bag)) (c : ZoneCounts)
    → AreOwnersSoFar r hs owners c → length owners ≡ length hs
    → length r.first_bags.items ≡ length r.heads.items + 1
places r hs owners c are same =
    omega (arith, ap length are.first_bags_are, length-starts past_owner 0 owners, ap length are.heads_are, same)

pub ended_as : {H : Type 0} (r : OwnersSoFar H) (e : OwnersRead H) (hs : List H) (owners : List (List flat.Bag))
    (c : ZoneCounts)
    → AreOwnersSoFar r hs owners c → AreEnded r e
    → ◌≡◌ {A = FlatOwners H} (owners_seen e)
    (record {
      heads =
          head_records hs (starts past_owner 0 owners);
      records = flat.tables_of (all_bags owners);
      counts = c;
    })
ended_as r e hs owners c are ended =
    let heads = ended.heads_are ∙ (λ i. head_records (are.heads_are i) (are.first_bags_are i)) in
    let records = ended.records_are (all_bags owners) are.records_are in
    let counts = ended.counts_are ∙ are.counts_are in
    λ i. record { heads = heads i; records = records i; counts = counts i }

-- ---- the loop over headers

module _ {O H : Type 0} (k : Headers O H) (targets : ℕ) (missing : ReadFault) (table : List Bagged) (heads : List H)
  where
    abbrev all : List (List Bagged)
    all = windows table (map k.first_bag heads)

    -- the owners read so far, header h and the headers hs are all, and the remaining zones determine the fault
    pub record Remaining (read : OwnersSoFar O) (h : H) (hs : List H) : Type 0 where
      pub names : List O
      pub owners : List (List flat.Bag)
      pub counts : ZoneCounts
      pub so_far : AreOwnersSoFar read names owners counts
      pub names_are : names ++ map k.read (without_terminal (h ∷ hs)) ≡ map k.read (without_terminal heads)
      pub owners_are : owners ++ map (own_bags k.level) (windows table (map k.first_bag (h ∷ hs)))
          ≡ map (own_bags k.level) all
      pub counts_are : added counts (counts_over k.level (windows table (map k.first_bag (h ∷ hs))))
          ≡ counts_over k.level all
      pub steps_are : first_fault (zone_checks k.level targets missing (windows table (map k.first_bag (h ∷ hs))))
          ≡ first_fault (zone_checks k.level targets missing all)

    -- before the first owner
    pub none_left : (read : OwnersSoFar O) (h : H) (hs : List H) → heads ≡ h ∷ hs → AreOwnersSoFar read [] [] no_counts
        → Remaining read h hs
    none_left read h hs is so_far =
        let ws : windows table (map k.first_bag (h ∷ hs)) ≡ all =
        ap (λ (l : List H). windows table (map k.first_bag l)) (sym is) in
        record {
          names = [];
          owners = [];
          counts = no_counts;
          so_far = so_far;
          names_are = ap (λ (l : List H). map k.read (without_terminal l)) (sym is);
          owners_are = ap (map (own_bags k.level)) ws;
          counts_are =
              none-added (counts_over k.level (windows table (map k.first_bag (h ∷ hs))))
              ∙ ap (counts_over k.level) ws;
          steps_are = ap (λ (l : List (List Bagged)). first_fault (zone_checks k.level targets missing l)) ws;
        }

    -- the bags of header h end at the first bag of the next header
    abbrev between : H → H → List Bagged
    between h n = slice_range table (k.first_bag h) (k.first_bag n)

    module _ (read : OwnersSoFar O) (h n : H) (ns : List H) (remaining : Remaining read h (n ∷ ns)) where
      -- after one owner
      pub left_next : (new : OwnersSoFar O)
          → first_fault (checks_of_bags k.level targets missing (between h n)) ≡ None
          → AppendsOwner read new (k.read h) (own_bags k.level (between h n)) (counts_read k.level (between h n))
          → Remaining new n ns
      left_next new holds adds =
          let rest = windows table (map k.first_bag (n ∷ ns)) in record {
            names = remaining.names ++ k.read h ∷ [];
            owners = remaining.owners ++ own_bags k.level (between h n) ∷ [];
            counts = added remaining.counts (counts_read k.level (between h n));
            so_far =
                one_more read new remaining.names remaining.owners remaining.counts (k.read h) (own_bags k.level (between h n))
                (counts_read k.level (between h n)) remaining.so_far adds;
            names_are =
                append_assoc remaining.names (k.read h ∷ []) (map k.read (without_terminal (n ∷ ns)))
                ∙ ap (λ (l : List H). remaining.names ++ map k.read l) (sym (without_terminal-next h n ns))
                ∙ remaining.names_are;
            owners_are =
                append_assoc remaining.owners (own_bags k.level (between h n) ∷ []) (map (own_bags k.level) rest)
                ∙ remaining.owners_are;
            counts_are =
                added-assoc remaining.counts (counts_read k.level (between h n)) (counts_over k.level rest)
                ∙ ap (added remaining.counts) (sym (counts_over-next k.level (between h n) rest))
                ∙ remaining.counts_are;
            steps_are =
                sym
                (first_fault-append (checks_of_bags k.level targets missing (between h n))
                (zone_checks k.level targets missing rest) holds)
                ∙ ap first_fault (sym (zone_checks-next k.level targets missing (between h n) rest))
                ∙ remaining.steps_are;
          }

      -- a zone of header h has a target that does not exist
      pub left_fails : {Y Z : Type 0} (view : Y → Z) (value : Z) (r : Result Y (Failure ReadFault))
          (e : Failure ReadFault)
          → IsErrAnd r (λ d. d ≡ e)
          → Fails e (first_fault (checks_of_bags k.level targets missing (between h n)))
          → PassesOrOutOfMemory view r (zone_checks k.level targets missing all) value
      left_fails view value r e is h_fails =
          let rest = windows table (map k.first_bag (n ∷ ns)) in
          let here =
          fails_front e (checks_of_bags k.level targets missing (between h n))
          (zone_checks k.level targets missing rest) h_fails in
          given_by view value r e (zone_checks k.level targets missing all) is
          (subst (λ (b : Option ReadFault). Fails e b)
          (ap first_fault (sym (zone_checks-next k.level targets missing (between h n) rest)) ∙ remaining.steps_are)
          here)

      -- adding its counts does not overflow
      pub left_small : AreFew (counts_over k.level all)
          → AreSmall (added read.counts (counts_read k.level (between h n)))
      left_small few =
          let rest = windows table (map k.first_bag (n ∷ ns)) in
          let so_far = remaining.so_far in
          part-small read.counts (counts_read k.level (between h n)) (counts_over k.level rest) (counts_over k.level all)
          (ap (λ (c : ZoneCounts). added c (added (counts_read k.level (between h n)) (counts_over k.level rest)))
          so_far.counts_are
          ∙ ap (added remaining.counts) (sym (counts_over-next k.level (between h n) rest)) ∙ remaining.counts_are) few

    -- there are as many owners as headers without the terminal
    pub as_many : length (map (own_bags k.level) all) ≡ length (map k.read (without_terminal heads))
    as_many =
        omega (
          arith,
          length-map all (own_bags k.level),
          length-map (without_terminal heads) k.read,
          length-windows table (map k.first_bag heads),
          length-map heads k.first_bag,
          length-without_terminal heads,
        )

    -- after the last owner
    pub record AllRead (read : OwnersSoFar O) : Type 0 where
      pub are : AreOwnersSoFar read (map k.read (without_terminal heads)) (map (own_bags k.level) all) (counts_over k.level all)
      pub hold : first_fault (zone_checks k.level targets missing all) ≡ None

    pub none_read : (read : OwnersSoFar O) → heads ≡ [] → AreOwnersSoFar read [] [] no_counts → AllRead read
    none_read read is so_far =
        let ws : [] ≡ all = ap (λ (l : List H). windows table (map k.first_bag l)) (sym is) in
        let names : [] ≡ map k.read (without_terminal heads) = ap (λ (l : List H). map k.read (without_terminal l)) (sym is) in
        record {
          are =
              are_as read [] (map k.read (without_terminal heads)) [] (map (own_bags k.level) all) no_counts
              (counts_over k.level all) names (ap (map (own_bags k.level)) ws) (ap (counts_over k.level) ws)
              so_far;
          hold = ap (λ (l : List (List Bagged)). first_fault (zone_checks k.level targets missing l)) (sym ws);
        }

    pub all_read : (read : OwnersSoFar O) (h : H) (hs : List H) → hs ≡ [] → Remaining read h hs → AllRead read
    all_read read h hs is remaining =
        let ws : [] ≡ windows table (map k.first_bag (h ∷ hs)) =
        ap (λ (l : List H). windows table (map k.first_bag (h ∷ l))) (sym is) in
        let no_rows : [] ≡ without_terminal (h ∷ hs) = ap (λ (l : List H). without_terminal (h ∷ l)) (sym is) in
        let names =
        sym (append-nil remaining.names) ∙ ap (λ (l : List H). remaining.names ++ map k.read l) no_rows ∙ remaining.names_are in
        let owners =
        sym (append-nil remaining.owners) ∙ ap (λ (l : List (List Bagged)). remaining.owners ++ map (own_bags k.level) l) ws
        ∙ remaining.owners_are in
        let counts =
        sym (added-none remaining.counts)
        ∙ ap (λ (l : List (List Bagged)). added remaining.counts (counts_over k.level l)) ws ∙ remaining.counts_are in
        record {
          are =
              are_as read remaining.names (map k.read (without_terminal heads)) remaining.owners (map (own_bags k.level) all) remaining.counts
              (counts_over k.level all) names owners counts remaining.so_far;
          hold =
              sym remaining.steps_are
              ∙ ap (λ (l : List (List Bagged)). first_fault (zone_checks k.level targets missing l)) (sym ws);
        }

    module _ (read : OwnersSoFar O) (all_are : AllRead read) where
      pub can_end : length read.first_bags.items ≡ length read.heads.items + 1
      can_end =
          places read (map k.read (without_terminal heads)) (map (own_bags k.level) all) (counts_over k.level all) all_are.are
          as_many

      pub all_ended : (e : OwnersRead O) → AreEnded read e
          → (first_fault (zone_checks k.level targets missing all) ≡ None)
          × (owners_seen e ≡ owners_with_counts k heads all)
      all_ended e ended = (
        all_are.hold,
        ended_as read e (map k.read (without_terminal heads)) (map (own_bags k.level) all) (counts_over k.level all) all_are.are
            ended,
      )

-- ---- one header

-- the bags of a header, from its first bag's record to that of the next header's first bag
bags_between : (bags part : List Bag) (gens : List Generator) (mods : List Modulator) (i j from to : ℕ)
    → part ≡ slice_range bags i (j + 1) → i ≡ from → j ≡ to
    → bags_in part gens mods ≡ slice_range (bags_in bags gens mods) from to
bags_between bags part gens mods i j from to is first next =
    ap (λ (l : List Bag). bags_in l gens mods)
    (is ∙ ap (λ (n : ℕ). slice_range bags n (j + 1)) first ∙ ap (λ (n : ℕ). slice_range bags from (n + 1)) next)
    ∙ sym (slice-bags_in bags gens mods from to)

-- a property of those bags is a property of the bags of the header
pub between_as : {H : Type 0} (P : Level → List Bagged → Type 0) (first_bag : H → ℕ) (l : LevelTables H) (h n : H)
    (at found : Level) (part : List Bag) (i j : ℕ)
    → found ≡ at → part ≡ slice_range l.bags i (j + 1) → i ≡ first_bag h → j ≡ first_bag n
    → P found (bags_in part l.generators l.modulators) → P at (window_of first_bag l h n)
between_as P first_bag l h n at found part i j same is first next same_bags =
    let bags = bags_between l.bags part l.generators l.modulators i j (first_bag h) (first_bag n) is first next in
    subst (λ (a : Level). P a (window_of first_bag l h n)) same (subst (P found) bags same_bags)
