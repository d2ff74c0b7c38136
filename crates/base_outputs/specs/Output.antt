-- The text put into an output, and how much of it the writer has.
use Rattle.std.specs.Prelude.{◌≡◌, ◌<◌, ℕ, List, [], ◌++◌, length, take, Option, Result, MatchOption, IfOk}
use Rattle.std.specs.Borrow.{MutBor}
use Rattle.std.specs.Io.KnownBytes.{Appends}
use Rattle.base_outputs.specs.declared.writing.WriteFault.{WriteFault}
use Rattle.base_outputs.specs.declared.output.Output.{Output}
use Rattle.base_outputs.specs.Writing.{Writes, Delivers}

-- A prefix of the text is written, and the rest is held back.
pub record IsPartlyWritten (start now : Option (List ℕ)) (held : List ℕ) (sent : ℕ) (text : List ℕ) : Type 0 where
  pub prefix : List ℕ
  pub parts : text ≡ prefix ++ held
  pub counted : sent ≡ length prefix
  pub out : Appends start now prefix

-- Exactly the first `written` bytes of the text are written, and at least one is not.
pub record StoppedIn (start now : Option (List ℕ)) (text : List ℕ) (written : ℕ) : Type 0 where
  pub within : written < length text
  pub front : Appends start now (take written text)

-- Since its writer held `start`, this text was put into the output: a prefix is written and the rest held back, or a
-- fault stopped it.
abbrev pub HasPut : {W : Type 0} → (W → Option (List ℕ)) → Option (List ℕ) → Output W → List ℕ → Type 0
HasPut contents start o text =
    MatchOption o.fault
    (IsPartlyWritten start (contents o.out.now) o.held.items o.sent text)
    (λ f. StoppedIn start (contents o.out.now) text f.written)

-- An output to this writer into which nothing is put yet.
pub record Begins {W : Type 0} (contents : W → Option (List ℕ)) (out : MutBor W) (o : Output W) : Type 0 where
  pub same_writer : o.out.ghost_name ≡ out.ghost_name
  pub nothing : HasPut contents (contents out.now) o []

-- This text is put after all the text that was put before.
pub record Puts {W : Type 0} (contents : W → Option (List ℕ)) (old new : Output W) (text : List ℕ) : Type 0 where
  pub same_writer : new.out.ghost_name ≡ old.out.ghost_name
  pub grows : (start : Option (List ℕ)) (before : List ℕ) → HasPut contents start old before
      → HasPut contents start new (before ++ text)

-- A total is the length of the whole text.
abbrev pub IsTotal : List ℕ → Result ℕ WriteFault → Type 0
IsTotal text answer = IfOk answer (λ total. total ≡ length text)

-- All text that was put is written, and its length returned; or a proper prefix is written.
abbrev pub Ends : {W : Type 0} → (W → Option (List ℕ)) → Output W → Option (List ℕ) → Result ℕ WriteFault → Type 0
Ends contents o now answer =
    (start : Option (List ℕ)) (text : List ℕ) → HasPut contents start o text
    → Writes start now text answer × IsTotal text answer

-- All text that was put is written, and its length returned; or a prefix is written, which may be the whole text.
abbrev pub EndsFlushed : {W : Type 0} → (W → Option (List ℕ)) → Output W → Option (List ℕ) → Result ℕ WriteFault
    → Type 0
EndsFlushed contents o now answer =
    (start : Option (List ℕ)) (text : List ℕ) → HasPut contents start o text
    → Delivers start now text answer × IsTotal text answer
