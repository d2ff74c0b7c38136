-- What a run writes to its two writers.
use Rattle.std.specs.Prelude.{◌≡◌, ◌≤◌, ℕ, List, length, take, Option, Result, Ok, Err}
use Rattle.std.specs.Io.KnownBytes.{Appends, Keeps}
use Rattle.program_reports.specs.declared.run_fault.RunFault.{RunFault}
use Rattle.program_reports.specs.declared.run_fault.RunFault.TheVariants as run
use Rattle.file_host.specs.declared.faults.Which.{Which}
use Rattle.file_host.specs.declared.faults.Which.TheVariants.{Out, Undo}
use Rattle.sfbank.specs.Outcome.{Done}

-- the bytes of two writers, before and after
pub record Writers : Type 0 where
  pub out : Option (List ℕ)
  pub out_new : Option (List ℕ)
  pub undo : Option (List ℕ)
  pub undo_new : Option (List ℕ)

-- The text is written whole. With the writer's fault, exactly its first `n` bytes are, which may be all.
abbrev pub IsWritten : {U : Type 0} → Which → Option (List ℕ) → Option (List ℕ) → List ℕ → Result U RunFault → Type 0
IsWritten which old new text (Ok u) = Appends old new text
IsWritten which old new text (Err (run.Write at n)) = (at ≡ which) × (n ≤ length text) × Appends old new (take n text)
IsWritten which old new text (Err fault) = ⊥

-- nothing was written
abbrev pub Untouched : Writers → Type 0
Untouched w = Keeps w.out w.out_new × Keeps w.undo w.undo_new

-- Both texts are written whole. With the first writer's fault, exactly the first `n` bytes of the first text are, which
-- may be all, and nothing of the second. With the second writer's fault, the first text is written whole, and exactly
-- the first `n` bytes of the second.
abbrev pub Delivers : {U : Type 0} → Writers → Done → Result U RunFault → Type 0
Delivers w done (Ok u) = Appends w.out w.out_new done.out × Appends w.undo w.undo_new done.undo
Delivers w done (Err (run.Write Out n)) =
    (n ≤ length done.out) × Appends w.out w.out_new (take n done.out) × Keeps w.undo w.undo_new
Delivers w done (Err (run.Write Undo n)) =
    Appends w.out w.out_new done.out × (n ≤ length done.undo) × Appends w.undo w.undo_new (take n done.undo)
Delivers w done (Err fault) = ⊥

-- the run has texts, and they are delivered
pub record DeliversDone {U : Type 0} (w : Writers) (outcome : Result Done RunFault) (r : Result U RunFault) : Type 0
  where
    pub done : Done
    pub is_done : outcome ≡ Ok done
    pub delivers : Delivers w done r

-- The run has this outcome. On success its texts are delivered; with a writer's fault, a part of them. With any other
-- fault nothing is written, and any result may be replaced by out of memory before the first byte.
abbrev pub Runs : {U : Type 0} → Writers → Result Done RunFault → Result U RunFault → Type 0
Runs w outcome (Ok u) = DeliversDone w outcome (Ok u)
Runs w outcome (Err (run.Write which n)) = DeliversDone {U = Unit {0}} w outcome (Err (run.Write which n))
Runs w outcome (Err run.Memory) = Untouched w
Runs w outcome (Err fault) = (outcome ≡ Err fault) × Untouched w

-- the outcome is a text, and it is written
pub record WritesText {U : Type 0} (old new : Option (List ℕ)) (outcome : Result (List ℕ) RunFault)
    (r : Result U RunFault) : Type 0 where
  pub text : List ℕ
  pub is_text : outcome ≡ Ok text
  pub writes : IsWritten Out old new text r

-- The run with one text has this outcome. With any fault but the writer's own, nothing is written.
abbrev pub RunsOneText : {U : Type 0} → Option (List ℕ) → Option (List ℕ) → Result (List ℕ) RunFault
    → Result U RunFault → Type 0
RunsOneText old new outcome (Ok u) = WritesText old new outcome (Ok u)
RunsOneText old new outcome (Err (run.Write which n)) = WritesText {U = Unit {0}} old new outcome (Err (run.Write which n))
RunsOneText old new outcome (Err run.Memory) = Keeps old new
RunsOneText old new outcome (Err fault) = (outcome ≡ Err fault) × Keeps old new

-- The fault of these bytes, or out of memory. Nothing is written.
abbrev pub FailsBefore : {X : Type 0} → RunFault → Result X RunFault → Type 0
FailsBefore run.Memory outcome = Unit {0}
FailsBefore (run.Write which n) outcome = ⊥
FailsBefore fault outcome = outcome ≡ Err fault

-- Before the first byte: what the run will write, or its fault.
abbrev pub Prepared : {X Y : Type 0} → (X → Y) → Result Y RunFault → Result X RunFault → Type 0
Prepared view outcome (Ok x) = outcome ≡ Ok (view x)
Prepared view outcome (Err fault) = FailsBefore fault outcome
