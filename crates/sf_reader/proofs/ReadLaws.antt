-- The checks of a file, function by function.
use Rattle.std.proofs.Common.{◌≡◌, ◌++◌, ◌∙◌, ℕ, List, [], ◌∷◌, map, None, Result, Ok, Err, refl, sym, ap, subst}
use Rattle.sf_base.specs.Fields.{field_at}
use Rattle.sf_base.specs.declared.memory.Failure.{Failure}
use Rattle.bank_format.specs.declared.fault.ReadFault.{ReadFault}
use Rattle.bank_format.specs.Ids.{IFIL, SMPL}
use Rattle.bank_format.specs.FaultChecks.{Check, first_fault, Fails, PassesOrOutOfMemory}
use Rattle.bank_format.specs.Tables.{Tables}
use Rattle.bank_format.specs.Chunks.{window, body_in, tables_in, points_in}
use Rattle.bank_format.specs.Reading.{content_in}
use Rattle.bank_format.specs.ReadChecks.{frame_checks, list_checks, chunk_check, nine, chunk_checks, size_checks}
use Rattle.bank_format.specs.ReadChecks.{point_checks, content_checks, window_checks, checks, fault_of}
use Rattle.sf_reader.specs.Lists.{ListChunks, chunks_in_lists}
use Rattle.sf_reader.specs.Hydra.{Bodies, bodies_in, body_size_checks, tables_from}
use Rattle.sf_reader.specs.FlatContent.{FlatContent, flat_content}
use Rattle.sf_reader.specs.Content.{list_content_checks, list_content, version_checks, table_checks, table_content}
use Rattle.bank_format.proofs.CheckLaws.{then_none}
use Rattle.sf_reader.proofs.CheckLaws.{fails_front, fails_after}
use Rattle.sf_reader.proofs.TableLaws.{from_counts_are}
use Rattle.sf_reader.proofs.FlatLaws.{content_flat}

-- ---- the three lists, from the results of their parts

abbrev pub ifil_in : ListChunks → List ℕ
ifil_in w = body_in IFIL w.info

abbrev pub smpl_in : ListChunks → List ℕ
smpl_in w = body_in SMPL w.sdta

abbrev pub nine_in : ListChunks → Bodies
nine_in w = bodies_in w.pdta

abbrev pub version_there : ListChunks → List (Check ReadFault)
version_there w = chunk_check w.info IFIL ∷ []

abbrev pub nine_there : ListChunks → List (Check ReadFault)
nine_there w = map (chunk_check w.pdta) nine

-- the checks from those of record sizes on
abbrev pub from_whole : ListChunks → List (Check ReadFault)
from_whole w = body_size_checks (nine_in w) ++ table_checks (tables_from (nine_in w)) (smpl_in w)

abbrev pub from_version : ListChunks → List (Check ReadFault)
from_version w = version_checks (ifil_in w) ++ from_whole w

abbrev pub from_nine : ListChunks → List (Check ReadFault)
from_nine w = nine_there w ++ from_version w

pub lists_in_parts : (w : ListChunks) → list_content_checks w ≡ version_there w ++ from_nine w
unfolding content_checks chunk_checks size_checks point_checks points_in tables_in bodies_in body_size_checks tables_from
lists_in_parts w =
    ap
    (λ (l : List (Check ReadFault)).
    version_there w ++ (nine_there w ++ (version_checks (ifil_in w) ++ (body_size_checks (nine_in w) ++ l))))
    (from_counts_are w.info w.sdta (tables_from (nine_in w)) (smpl_in w))

pub content_in_parts : (w : ListChunks)
    → list_content w ≡ table_content (field_at 2 2 (ifil_in w)) w (tables_from (nine_in w)) (smpl_in w)
unfolding points_in tables_in bodies_in tables_from
content_in_parts w = content_flat w (tables_from (nine_in w))

-- ---- what the reader has found in the lists before it reads records

pub record Opened (w : ListChunks) (version : List ℕ) (bodies : Bodies) : Type 0 where
  pub there : first_fault (version_there w) ≡ None
  pub version_is : version ≡ ifil_in w
  pub nine : first_fault (nine_there w) ≡ None
  pub bodies_are : bodies ≡ nine_in w

pub record Cut (w : ListChunks) (version : List ℕ) (bodies : Bodies) (minor : ℕ) (t : Tables) (smpl : List ℕ) : Type
    0 where
  pub opened : Opened w version bodies
  pub version_holds : first_fault (version_checks version) ≡ None
  pub minor_is : minor ≡ field_at 2 2 version
  pub whole : first_fault (body_size_checks bodies) ≡ None
  pub tables_are : t ≡ tables_from bodies
  pub smpl_is : smpl ≡ smpl_in w

-- ---- the fault of a part is the fault of the lists

module _ (w : ListChunks) (e : Failure ReadFault) where
  pub in_there : Fails e (first_fault (version_there w)) → Fails e (first_fault (list_content_checks w))
  in_there h = rw lists_in_parts (fails_front e (version_there w) (from_nine w) h)

  past_there : first_fault (version_there w) ≡ None → Fails e (first_fault (from_nine w))
      → Fails e (first_fault (list_content_checks w))
  past_there none h = rw lists_in_parts (fails_after e (version_there w) (from_nine w) none h)

  pub in_nine : first_fault (version_there w) ≡ None → Fails e (first_fault (nine_there w))
      → Fails e (first_fault (list_content_checks w))
  in_nine there h = past_there there (fails_front e (nine_there w) (from_version w) h)

  past_opened : (version : List ℕ) (bodies : Bodies) → Opened w version bodies
      → Fails e (first_fault (version_checks version ++ from_whole w))
      → Fails e (first_fault (list_content_checks w))
  past_opened version bodies o h =
      past_there o.there (fails_after e (nine_there w) (from_version w) o.nine
      (subst (λ (v : List ℕ). Fails e (first_fault (version_checks v ++ from_whole w))) o.version_is h))

  pub in_version : (version : List ℕ) (bodies : Bodies) → Opened w version bodies
      → Fails e (first_fault (version_checks version)) → Fails e (first_fault (list_content_checks w))
  in_version version bodies o h = past_opened version bodies o (fails_front e (version_checks version) (from_whole w) h)

  past_version : (version : List ℕ) (bodies : Bodies) → Opened w version bodies
      → first_fault (version_checks version) ≡ None
      → Fails e (first_fault (body_size_checks bodies ++ table_checks (tables_from bodies) (smpl_in w)))
      → Fails e (first_fault (list_content_checks w))
  past_version version bodies o none h =
      past_opened version bodies o (fails_after e (version_checks version) (from_whole w) none
      (subst (λ (b : Bodies). Fails e (first_fault (body_size_checks b ++ table_checks (tables_from b) (smpl_in w))))
      o.bodies_are h))

  pub in_whole : (version : List ℕ) (bodies : Bodies) → Opened w version bodies
      → first_fault (version_checks version) ≡ None
      → Fails e (first_fault (body_size_checks bodies)) → Fails e (first_fault (list_content_checks w))
  in_whole version bodies o none h =
      past_version version bodies o none
      (fails_front e (body_size_checks bodies) (table_checks (tables_from bodies) (smpl_in w)) h)

  pub in_tables : (version : List ℕ) (bodies : Bodies) (minor : ℕ) (t : Tables) (smpl : List ℕ)
      → Cut w version bodies minor t smpl
      → Fails e (first_fault (table_checks t smpl)) → Fails e (first_fault (list_content_checks w))
  in_tables version bodies minor t smpl k h =
      past_version version bodies k.opened k.version_holds
      (fails_after e (body_size_checks bodies) (table_checks (tables_from bodies) (smpl_in w)) k.whole
      (rw (← k.tables_are, ← k.smpl_is) h))

-- the lists pass their checks, and have the content of their parts
pub lists_hold : (w : ListChunks) (version : List ℕ) (bodies : Bodies) (minor : ℕ) (t : Tables) (smpl : List ℕ)
    → Cut w version bodies minor t smpl
    → first_fault (table_checks t smpl) ≡ None
    → (first_fault (list_content_checks w) ≡ None) × (table_content minor w t smpl ≡ list_content w)
lists_hold w version bodies minor t smpl k none =
    let o = k.opened in
    let tables : first_fault (table_checks (tables_from (nine_in w)) (smpl_in w)) ≡ None =
    rw (← o.bodies_are, ← k.tables_are, ← k.smpl_is) none in
    let whole : first_fault (body_size_checks (nine_in w)) ≡ None = rw (← o.bodies_are) k.whole in
    let holds : first_fault (version_checks (ifil_in w)) ≡ None = rw (← o.version_is) k.version_holds in
    let all =
    then_none (version_there w) (from_nine w) o.there (then_none (nine_there w) (from_version w) o.nine
    (then_none (version_checks (ifil_in w)) (from_whole w) holds
    (then_none (body_size_checks (nine_in w)) (table_checks (tables_from (nine_in w)) (smpl_in w)) whole tables))) in (
      rw lists_in_parts all,
      ap (λ (n : ℕ). table_content n w t smpl) (k.minor_is ∙ ap (field_at 2 2) o.version_is)
          ∙ ap (λ (u : Tables). table_content (field_at 2 2 (ifil_in w)) w u smpl)
          (k.tables_are ∙ ap tables_from o.bodies_are)
          ∙ ap (table_content (field_at 2 2 (ifil_in w)) w (tables_from (nine_in w))) k.smpl_is
          ∙ sym (content_in_parts w),
    )

-- the result for the tables is the result for the lists
pub tables_pass : {X : Type 0} (seen : X → FlatContent) (r : Result X (Failure ReadFault)) (w : ListChunks)
    (version : List ℕ) (bodies : Bodies) (minor : ℕ) (t : Tables) (smpl : List ℕ)
    → Cut w version bodies minor t smpl
    → PassesOrOutOfMemory seen r (table_checks t smpl) (table_content minor w t smpl)
    → PassesOrOutOfMemory seen r (list_content_checks w) (list_content w)
tables_pass seen (Ok x) w version bodies minor t smpl k h =
    let hold = lists_hold w version bodies minor t smpl k h.0 in
    (hold.0, h.1 ∙ hold.1)
tables_pass seen (Err e) w version bodies minor t smpl k h = in_tables w e version bodies minor t smpl k h

-- ---- the whole file

pub file_in_parts : (file : List ℕ)
    → checks file
    ≡ frame_checks file ++ (list_checks (window file) ++ list_content_checks (chunks_in_lists (window file)))
unfolding checks window_checks chunks_in_lists
file_in_parts file = refl

pub content_is : (file : List ℕ)
    → flat_content (content_in (window file)) ≡ list_content (chunks_in_lists (window file))
unfolding content_in chunks_in_lists
content_is file = refl

-- the file passes its checks, and has the content of its lists
pub file_holds : (file w : List ℕ) (v : ListChunks) → w ≡ window file → v ≡ chunks_in_lists w
    → first_fault (frame_checks file) ≡ None → first_fault (list_checks w) ≡ None
    → first_fault (list_content_checks v) ≡ None
    → (fault_of file ≡ None) × (list_content v ≡ flat_content (content_in (window file)))
file_holds file w v ew ev frame lists inside =
    let vw : v ≡ chunks_in_lists (window file) = ev ∙ ap chunks_in_lists ew in
    let there : first_fault (list_checks (window file)) ≡ None =
    ap (λ (l : List ℕ). first_fault (list_checks l)) (sym ew) ∙ lists in
    let held : first_fault (list_content_checks (chunks_in_lists (window file))) ≡ None =
    ap (λ (u : ListChunks). first_fault (list_content_checks u)) (sym vw) ∙ inside in (
      rw file_in_parts (then_none (frame_checks file)
          (list_checks (window file) ++ list_content_checks (chunks_in_lists (window file))) frame
          (then_none (list_checks (window file)) (list_content_checks (chunks_in_lists (window file))) there held)),
      ap list_content vw ∙ sym (content_is file),
    )

-- ---- the fault of a part is the fault of the file

module _ (file : List ℕ) (e : Failure ReadFault) where
  abbrev rest : List (Check ReadFault)
  rest = list_checks (window file) ++ list_content_checks (chunks_in_lists (window file))

  pub in_frame : Fails e (first_fault (frame_checks file)) → Fails e (fault_of file)
  in_frame h = rw file_in_parts (fails_front e (frame_checks file) rest h)

  past_frame : first_fault (frame_checks file) ≡ None → Fails e (first_fault rest) → Fails e (fault_of file)
  past_frame none h = rw file_in_parts (fails_after e (frame_checks file) rest none h)

  pub in_lists : (w : List ℕ) → w ≡ window file → first_fault (frame_checks file) ≡ None
      → Fails e (first_fault (list_checks w)) → Fails e (fault_of file)
  in_lists w ew frame h =
      past_frame frame (fails_front e (list_checks (window file)) (list_content_checks (chunks_in_lists (window file)))
      (subst (λ (l : List ℕ). Fails e (first_fault (list_checks l))) ew h))

  pub in_content : (w : List ℕ) (v : ListChunks) → w ≡ window file → v ≡ chunks_in_lists w
      → first_fault (frame_checks file) ≡ None → first_fault (list_checks w) ≡ None
      → Fails e (first_fault (list_content_checks v)) → Fails e (fault_of file)
  in_content w v ew ev frame lists h =
      let held : first_fault (list_checks (window file)) ≡ None =
      ap (λ (l : List ℕ). first_fault (list_checks l)) (sym ew) ∙ lists in
      past_frame frame
      (fails_after e (list_checks (window file)) (list_content_checks (chunks_in_lists (window file))) held
      (subst (λ (u : ListChunks). Fails e (first_fault (list_content_checks u))) (ev ∙ ap chunks_in_lists ew) h))
