-- Scripts that turn the bank of one file into the bank of another.
use Rattle.std.proofs.Common.{◌≡◌, ◌==◌, ℕ, Bool, true, false, List, [], Option, Some, None, Result, Ok, Err, refl}
use Rattle.std.proofs.Common.{sym, ap, subst, ◌∙◌, ◌≢◌, IfOk}
use Rattle.std.proofs.lemmas.Bool.{eq-eqb, eqb-true, ne_eqb}
use Rattle.std.proofs.KnownBytes.{Keeps-refl}
use Rattle.std.specs.Io.KnownBytes.{Appends}
use Rattle.sf_base.specs.declared.memory.Failure.{Failure}
use Rattle.sf_base.specs.declared.memory.Failure.TheVariants as failures
use Rattle.bank_parts.specs.declared.parts.Parts.{Parts}
use Rattle.hydra_records.specs.Records.{AreBytes}
use Rattle.bank_format.specs.declared.fault.Counts.{Counts}
use Rattle.bank_format.specs.declared.fault.ReadFault.{ReadFault}
use Rattle.bank_format.specs.Canon.{canon}
use Rattle.bank_format.specs.FaultChecks.{Fails}
use Rattle.bank_format.specs.ReadChecks.{fault_of, ReadsAs}
use Rattle.edit_forms.specs.declared.edit.Edit.{Edit}
use Rattle.bank_edits.specs.Runs.{undo_list}
use Rattle.edit_script.specs.Script.{script_of}
use Rattle.edit_script.specs.Printing.{texts_of, numbered}
use Rattle.edit_script.proofs.LineLaws.{printed_is_read}
use Rattle.script_of_bank.specs.BankScript.{IsScript}
use Rattle.script_of_bank.specs.LeadsTo.{Leads}
use Rattle.script_comments.specs.Along.{comments_of}
use Rattle.script_comments.proofs.AlongLaws.{along_are}
use Rattle.script_comments.proofs.LineLaws.{read_alike}
use Rattle.bank_parts.specs.Sound.{IsSound}
use Rattle.program_reports.specs.declared.run_fault.RunFault.{RunFault}
use Rattle.program_reports.specs.declared.run_fault.RunFault.TheVariants as run
use Rattle.file_host.specs.declared.faults.Which.TheVariants.{Out}
use Rattle.program_reports.specs.RunFaults.{in_run}
use Rattle.sfbank.specs.Outcome.{Done, edits_of, after_script, after_reading, bank_in, outcome}
use Rattle.sfbank.specs.Written.{IsWritten}
use Rattle.sfbank.specs.Differences.{TwoBanks, after_file, if_same, of_one_version, banks_in, two_banks_of, IsDifference}
use Rattle.sfbank.specs.Differences.{IsScriptOf}
use Rattle.sfbank.specs.Differences.{WritesDifference, RunsDifference, WritesNothing, ReadsTwoBanks, FindsDifference}
use Rattle.sfbank.specs.EditTexts.{edits_text}
use Rattle.sfbank.proofs.Restores.{all_fit, edits_numbered, restores}
use Rattle.sfbank.proofs.BankScripts.{sound_in, script_leads}

-- ---- reading both files

pub first_not_read : (X : Type 0) (view : X → TwoBanks) (failure : Failure ReadFault) (a b : List ℕ)
    → Fails failure (fault_of a)
    → ReadsTwoBanks view (two_banks_of a b) (Err (in_run run.ReadFirst failure))
unfolding two_banks_of
first_not_read X view (failures.Fault fault) a b h =
    ap
    (λ (o : Option ReadFault).
    after_file run.ReadFirst o (after_file run.ReadSecond (fault_of b) (of_one_version (banks_in a b))))
    h
first_not_read X view failures.OutOfMemory a b h = tt

-- the first file is read
pair_first : (a b : List ℕ) → fault_of a ≡ None
    → two_banks_of a b ≡ after_file run.ReadSecond (fault_of b) (of_one_version (banks_in a b))
unfolding two_banks_of
pair_first a b h =
    ap
    (λ (o : Option ReadFault).
    after_file run.ReadFirst o (after_file run.ReadSecond (fault_of b) (of_one_version (banks_in a b))))
    h

pub second_not_read : (X : Type 0) (view : X → TwoBanks) (failure : Failure ReadFault) (a b : List ℕ) → fault_of a ≡ None
    → Fails failure (fault_of b)
    → ReadsTwoBanks view (two_banks_of a b) (Err (in_run run.ReadSecond failure))
second_not_read X view (failures.Fault fault) a b r h =
    pair_first a b r ∙ ap (λ (o : Option ReadFault). after_file run.ReadSecond o (of_one_version (banks_in a b))) h
second_not_read X view failures.OutOfMemory a b r h = tt

-- both files are read
pub pair_read : (a b : List ℕ) (x y : Parts) (c d : Counts) → ReadsAs a x c → ReadsAs b y d
    → two_banks_of a b ≡ of_one_version (record { first = x; second = y })
pair_read a b x y c d r s =
    pair_first a b r.0
    ∙ ap (λ (o : Option ReadFault). after_file run.ReadSecond o (of_one_version (banks_in a b))) s.0
    ∙ (λ i. of_one_version (record { first = (r.1 i).bank; second = (s.1 i).bank }))

pub other_versions : (p : TwoBanks) → p.first.minor ≢ p.second.minor → of_one_version p ≡ Err run.OtherVersion
other_versions p h = ap (λ (t : Bool). if_same t p) (ne_eqb p.first.minor p.second.minor h)

pub one_version : (p : TwoBanks) → p.first.minor ≡ p.second.minor → of_one_version p ≡ Ok p
one_version p h = ap (λ (t : Bool). if_same t p) (eq-eqb p.first.minor p.second.minor h)

record BothRead (a b : List ℕ) (p : TwoBanks) : Type 0 where
  first : fault_of a ≡ None
  second : fault_of b ≡ None
  minors : (bank_in a).minor ≡ (bank_in b).minor
  banks : banks_in a b ≡ p

file_done : (reported : ReadFault → RunFault) (o : Option ReadFault) (r : Result TwoBanks RunFault) (p : TwoBanks)
    → after_file reported o r ≡ Ok p → (o ≡ None) × (r ≡ Ok p)
file_done reported None r p h = (refl, h)
file_done reported (Some f) r p h = absurd cc

same_done : (t : Bool) (q p : TwoBanks) → if_same t q ≡ Ok p → (t ≡ true) × (q ≡ p)
same_done true q p h = (refl, cc)
same_done false q p h = absurd cc

both_read : (a b : List ℕ) (p : TwoBanks) → two_banks_of a b ≡ Ok p → BothRead a b p
unfolding two_banks_of
both_read a b p h =
    let rest = after_file run.ReadSecond (fault_of b) (of_one_version (banks_in a b)) in
    let first = file_done run.ReadFirst (fault_of a) rest p h in
    let second = file_done run.ReadSecond (fault_of b) (of_one_version (banks_in a b)) p first.1 in
    let same = same_done ((bank_in a).minor == (bank_in b).minor) (banks_in a b) p second.1 in
    record {
      first =
          first.0;
      second = second.0;
      minors = eqb-true (bank_in a).minor (bank_in b).minor same.0;
      banks = same.1;
    }

-- ---- a script that leads from one bank to the other

is_difference : (comments : Bool) (a b text : List ℕ) → AreBytes a → fault_of a ≡ None
    → IsScript (bank_in a) text (bank_in b) → IsScriptOf comments (bank_in a) (bank_in b) text
    → IsDifference comments a b text
unfolding outcome
is_difference comments a b text bytes read s form =
    let x = bank_in a in
    let undo = texts_of (undo_list x (edits_of s.lines)) in
    let done : Done = record { out = canon (bank_in b); undo = undo } in
    let leads : outcome a text ≡ Ok done =
    ap (λ (o : Option ReadFault). after_reading o (after_script x (script_of text))) read
    ∙ script_leads x text (bank_in b) s in
    record {
      is_script = form;
      undo = undo;
      again = texts_of (edits_of s.lines);
      leads = leads;
      returns = restores a text bytes done s.lines leads s.read;
    }

-- edits in canonical form
pub printed_leads : (x y : Parts) (es : List Edit) → Leads x es y → IsScript x (texts_of es) y
printed_leads x y es h = record {
  lines = numbered 1 es;
  read = printed_is_read es (all_fit x es h.is_accepted);
  leads = subst (λ (xs : List Edit). Leads x xs y) (sym (edits_numbered 1 es)) h;
}

-- the same with comments
pub commented_leads : (x y : Parts) (es : List Edit) → IsSound x → Leads x es y → IsScript x (edits_text true x es) y
commented_leads x y es sound h =
    let fit = all_fit x es h.is_accepted in
    let comments = along_are x es sound h.is_accepted in
    record {
      lines = numbered 1 es;
      read = read_alike es (comments_of x es) fit comments ∙ printed_is_read es fit;
      leads = subst (λ (xs : List Edit). Leads x xs y) (sym (edits_numbered 1 es)) h;
    }

-- the second of two banks was read
pub second_is_read : (a b : List ℕ) (p : TwoBanks) → two_banks_of a b ≡ Ok p → fault_of b ≡ None
second_is_read a b p h = (both_read a b p h).second

-- there are no lines of no edits
pub no_lines : (es : List Edit) → es ≡ [] → texts_of es ≡ []
no_lines es e = ap texts_of e

pub no_commented_lines : (x : Parts) (es : List Edit) → es ≡ [] → edits_text true x es ≡ []
no_commented_lines x es e = ap (edits_text true x) e

-- what holds for a text holds for what has it
pub with_text : {X E : Type 0} (view : X → List ℕ) (P : List ℕ → Type 0) (text : List ℕ) (r : Result X E) → P text
    → IfOk r (λ x. view x ≡ text) → IfOk r (λ x. P (view x))
with_text view P text (Ok x) p h = subst P (sym h) p
with_text view P text (Err e) p h = tt

pub difference_found : (comments : Bool) (a b text : List ℕ) (p : TwoBanks) → AreBytes a → two_banks_of a b ≡ Ok p
    → (p.first.minor ≡ p.second.minor → IsScript p.first text p.second) → IsScriptOf comments p.first p.second text
    → (p.first ≡ p.second → text ≡ [])
    → (two_banks_of a b ≡ Ok (banks_in a b)) × IsDifference comments a b text × (bank_in a ≡ bank_in b → text ≡ [])
difference_found comments a b text p in_a h leads form none =
    let d = both_read a b p h in
    let first = ap (λ (q : TwoBanks). q.first) d.banks in
    let second = ap (λ (q : TwoBanks). q.second) d.banks in
    let minors = ap (λ (x : Parts). x.minor) (sym first) ∙ d.minors ∙ ap (λ (x : Parts). x.minor) second in
    let script = subst (λ (q : TwoBanks). IsScript q.first text q.second) (sym d.banks) (leads minors) in
    let formed = subst (λ (q : TwoBanks). IsScriptOf comments q.first q.second text) (sym d.banks) form in (
      h ∙ ap Ok (sym d.banks),
      is_difference comments a b text in_a d.first script formed,
      λ e. none (sym first ∙ e ∙ second),
    )

-- ---- how the run ends

writes_difference : {U : Type 0} (comments : Bool) (old new : Option (List ℕ)) (a b text : List ℕ) (r : Result U RunFault)
    → two_banks_of a b ≡ Ok (banks_in a b) → IsDifference comments a b text → IsWritten Out old new text r
    → WritesDifference comments old new a b r
writes_difference comments old new a b text r pair d g =
    record { is_pair = pair; text = text; differs = d; writes = g }

pub runs_difference : {U : Type 0} (comments : Bool) (old new : Option (List ℕ)) (a b text : List ℕ) (r : Result U RunFault)
    → two_banks_of a b ≡ Ok (banks_in a b) → IsDifference comments a b text → IsWritten Out old new text r
    → RunsDifference comments old new a b r
runs_difference comments old new a b text (Ok u) pair d g = writes_difference comments old new a b text (Ok u) pair d g
runs_difference comments old new a b text (Err (run.Write which n)) pair d g =
    writes_difference {U = Unit {0}} comments old new a b text (Err (run.Write which n)) pair d g
runs_difference comments old new a b text (Err run.Memory) pair d g = absurd g
runs_difference comments old new a b text (Err run.OtherVersion) pair d g = absurd g
runs_difference comments old new a b text (Err run.PlanFailed) pair d g = absurd g
runs_difference comments old new a b text (Err (run.ReadFrom f)) pair d g = absurd g
runs_difference comments old new a b text (Err (run.Presets f)) pair d g = absurd g
runs_difference comments old new a b text (Err (run.Full f)) pair d g = absurd g
runs_difference comments old new a b text (Err (run.Recording fault)) pair d g = absurd g
runs_difference comments old new a b text (Err (run.Table fault)) pair d g = absurd g
runs_difference comments old new a b text (Err (run.InRecording i fault)) pair d g = absurd g
runs_difference comments old new a b text (Err (run.NoMember cause)) pair d g = absurd g
runs_difference comments old new a b text (Err (run.Read fault)) pair d g = absurd g
runs_difference comments old new a b text (Err (run.ReadFirst fault)) pair d g = absurd g
runs_difference comments old new a b text (Err (run.ReadSecond fault)) pair d g = absurd g
runs_difference comments old new a b text (Err (run.Script fault)) pair d g = absurd g
runs_difference comments old new a b text (Err (run.Refused number why)) pair d g = absurd g
runs_difference comments old new a b text (Err (run.NotNeutral number)) pair d g = absurd g
runs_difference comments old new a b text (Err (run.Notes fault)) pair d g = absurd g

-- for two files of one bank nothing is written
pub writes_nothing : {U : Type 0} (old new : Option (List ℕ)) (a b text : List ℕ) (r : Result U RunFault)
    → (bank_in a ≡ bank_in b → text ≡ []) → IsWritten Out old new text r → WritesNothing old new a b r
writes_nothing old new a b text (Ok u) none g = λ e. subst (Appends old new) (none e) g
writes_nothing old new a b text (Err fault) none g = tt

-- a fault before the first byte
pub no_difference_runs : {X : Type 0} (comments : Bool) (view : X → List ℕ) (known : Option (List ℕ)) (a b : List ℕ)
    (why : RunFault) → FindsDifference comments view a b (Err why)
    → RunsDifference {U = Unit {0}} comments known known a b (Err why)
no_difference_runs comments view known a b run.Memory h = Keeps-refl known
no_difference_runs comments view known a b run.OtherVersion h = (h, Keeps-refl known)
no_difference_runs comments view known a b run.PlanFailed h = (h, Keeps-refl known)
no_difference_runs comments view known a b (run.ReadFrom f) h = (h, Keeps-refl known)
no_difference_runs comments view known a b (run.Presets f) h = (h, Keeps-refl known)
no_difference_runs comments view known a b (run.Full f) h = (h, Keeps-refl known)
no_difference_runs comments view known a b (run.Recording fault) h = (h, Keeps-refl known)
no_difference_runs comments view known a b (run.Table fault) h = (h, Keeps-refl known)
no_difference_runs comments view known a b (run.InRecording i fault) h = (h, Keeps-refl known)
no_difference_runs comments view known a b (run.NoMember cause) h = (h, Keeps-refl known)
no_difference_runs comments view known a b (run.Read fault) h = (h, Keeps-refl known)
no_difference_runs comments view known a b (run.ReadFirst fault) h = (h, Keeps-refl known)
no_difference_runs comments view known a b (run.ReadSecond fault) h = (h, Keeps-refl known)
no_difference_runs comments view known a b (run.Script fault) h = (h, Keeps-refl known)
no_difference_runs comments view known a b (run.Refused number why) h = (h, Keeps-refl known)
no_difference_runs comments view known a b (run.NotNeutral number) h = (h, Keeps-refl known)
no_difference_runs comments view known a b (run.Notes fault) h = (h, Keeps-refl known)
no_difference_runs comments view known a b (run.Write which n) h = absurd h
