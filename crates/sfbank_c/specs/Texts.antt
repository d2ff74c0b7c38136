-- Texts that C stores in two calls: one for the length, one that fills a buffer of that length.
use Rattle.std.specs.Prelude.{ℕ, ℤ, pos, cond, ◌==◌, List, [], ◌∷◌, length, Ok, Err}
use Rattle.script_tokens.specs.Faults.{number_of, line_of}
use Rattle.script_tokens.specs.Pool.{ListOrFault}
use Rattle.inverse_edits.specs.Histories.{undo_edits}
use Rattle.live_sessions.specs.Saved.{undo_text}
use Rattle.sfbank_c.specs.declared.open_bank.OpenBank.{OpenBank}
use Rattle.sfbank_c.specs.declared.status.TheConstants.{BAD_LENGTH}

-- whether a buffer has the length of a text
abbrev pub fill_status : ℕ → List ℕ → ℤ
fill_status size text = cond (length text == size) (pos 0) BAD_LENGTH

-- the inverses of all edits of an open bank, the last edit's first
abbrev pub undo_script : List OpenBank → List ℕ
undo_script [] = []
undo_script (b ∷ _) = undo_text (undo_edits b.session)

-- ---- the pool of a script, or its fault

abbrev pub pool_in : ListOrFault ℕ → List ℕ
pool_in (Ok pool) = pool
pool_in (Err fault) = []

abbrev pub pool_line : ListOrFault ℕ → ℕ
pool_line (Ok pool) = 0
pool_line (Err fault) = line_of fault

abbrev pub pool_status : ListOrFault ℕ → ℤ
pool_status (Ok pool) = pos 0
pool_status (Err fault) = pos (number_of fault)

abbrev pub pool_fill_status : ℕ → ListOrFault ℕ → ℤ
pool_fill_status size (Ok pool) = fill_status size pool
pool_fill_status size (Err fault) = pos (number_of fault)
