-- What the pointers own. Each start halves a bank's share of its lifetime, and the player has the other half.
use Prim.Native.Nat.{ℕ, zero, suc}
use mathlib.Core.List.{List, [], ◌∷◌}
use mir.Syntax.{named}
use base.Fml.{Fml, Lft, Share, ftrue, fsep, flft}
use base.Fraction.{full_share}
use base.Share
use denote.RawPtr.{Ptr}
use denote.Ref.{NamedLft}
use Rattle.std.specs.Box.Ownership.{box_owns}
use base.Stored.{Coded}
use Rattle.std.specs.Coded.{coded_list}
use Rattle.std.specs.Global.{Global}
use Rattle.bank_parts.specs.declared.parts.Parts.{Parts}
use Rattle.mixer.specs.declared.playing.PlayingVoice.{PlayingVoice}
use Rattle.std_heap.specs.contracts.GlobalAllocator.TheImpl.{ghosts}
use Rattle.bank_core.specs.contracts.bank.Bank as Bank
use Rattle.mixer.specs.contracts.player.Player as Player

abbrev pub at_lft : Lft → NamedLft
at_lft κ = record { mir = named 0; lft = κ }

abbrev pub voices_of : List (List PlayingVoice) → List PlayingVoice
voices_of [] = []
voices_of (p ∷ _) = p

-- a share that was halved so many times
abbrev pub level : ℕ → Share
level zero = full_share
level (suc n) = Share.left (level n)

abbrev pub bank_owns : Global → Ptr → List Parts → ℕ → ℕ → Fml
bank_owns alloc at [] loan top = ftrue
bank_owns alloc at (b ∷ _) loan top = fsep (flft (loan ∷ []) (level top)) (box_owns (ghosts.dealloc_token alloc) (Bank.the_row (at_lft (loan ∷ []))) at b)

-- the meet of the lifetimes of the tokens
abbrev pub atoms : List (ℕ × ℕ) → Lft
atoms [] = []
atoms (t ∷ ts) = t.0 ∷ atoms ts

abbrev pub toks_owned : List (ℕ × ℕ) → Fml
toks_owned [] = ftrue
toks_owned (t ∷ ts) = fsep (flft (t.0 ∷ []) (level t.1)) (toks_owned ts)

abbrev pub player_owns : Global → Ptr → List (List PlayingVoice) → List (ℕ × ℕ) → Fml
player_owns alloc at [] toks = ftrue
player_owns alloc at (p ∷ _) toks = fsep (toks_owned toks) (box_owns (ghosts.dealloc_token alloc) (Player.the_row (at_lft (atoms toks))) at p)

abbrev pub next : ℕ → ℕ
next n = suc n

abbrev pub banks_coded : Coded (List Parts)
banks_coded = coded_list (Bank.the_row (at_lft [])).coded

abbrev pub players_coded : Coded (List (List PlayingVoice))
players_coded = coded_list (Player.the_row (at_lft [])).coded
