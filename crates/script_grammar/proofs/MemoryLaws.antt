-- One parser after another, where an allocation may fail.
use Rattle.std.proofs.Common.{◌≡◌, Result, Ok, Err, ap, ◌∙◌}
use Rattle.sf_base.specs.declared.memory.Failure.{Failure}
use Rattle.sf_base.specs.declared.memory.Failure.TheVariants.{Fault, OutOfMemory}
use Rattle.script_tokens.specs.declared.fault.LineFault.{LineFault}
use Rattle.script_tokens.specs.TokenValue.{CursorState}
use Rattle.script_tokens.specs.Parsers.{Parsed, Parser, and_then, ◌>>=◌}
use Rattle.script_grammar.specs.Memory.{ReadsOrOutOfMemory}

module _ {X Y : Type 0} (p : Parser X) (f : X → Parser Y) where
  -- the first parser fails
  pub first_fails : (old : CursorState) (d : LineFault) → p old.token_values ≡ Err d → (p >>= f) old.token_values ≡ Err d
  first_fails old d e = ap (λ (r : Result (Parsed X) LineFault). and_then r f) e

  pub first_out_of_memory : {V W : Type 0} (view : V → X) (other : W → Y) (old mid new : CursorState) (failure : Failure LineFault)
      → ReadsOrOutOfMemory view p old mid (Err failure) → ReadsOrOutOfMemory other (p >>= f) old new (Err failure)
  first_out_of_memory view other old mid new (Fault d) h = first_fails old d h
  first_out_of_memory view other old mid new OutOfMemory h = tt

  -- the first parser succeeds
  pub first_read : (old mid : CursorState) (x : X) → p old.token_values ≡ Ok (record { value = x; rest = mid.token_values })
      → (p >>= f) old.token_values ≡ f x mid.token_values
  first_read old mid x e = ap (λ (r : Result (Parsed X) LineFault). and_then r f) e

  pub then_reads : {V : Type 0} (view : V → Y) (old mid new : CursorState) (x : X) (r : Result V (Failure LineFault))
      → (p old.token_values ≡ Ok (record { value = x; rest = mid.token_values })) × (mid.pool ≡ old.pool)
      → ReadsOrOutOfMemory view (f x) mid new r
      → ReadsOrOutOfMemory view (p >>= f) old new r
  then_reads view old mid new x (Ok v) e h = (first_read old mid x e.0 ∙ h.0, h.1 ∙ e.1)
  then_reads view old mid new x (Err (Fault d)) e h = first_read old mid x e.0 ∙ h
  then_reads view old mid new x (Err OutOfMemory) e h = tt

-- the failure of another parser, or a failed allocation
pub also_out_of_memory : {X Y V W : Type 0} (p : Parser X) (q : Parser Y) (view : V → X) (other : W → Y) (at old new : CursorState)
    (failure : Failure LineFault)
    → ((d : LineFault) → p at.token_values ≡ Err d → q old.token_values ≡ Err d) → ReadsOrOutOfMemory view p at new (Err failure)
    → ReadsOrOutOfMemory other q old new (Err failure)
also_out_of_memory p q view other at old new (Fault d) f h = f d h
also_out_of_memory p q view other at old new OutOfMemory f h = tt

-- the result of another parser
pub reads_as : {X V : Type 0} (p q : Parser X) (view : V → X) (old new : CursorState) (r : Result V (Failure LineFault))
    → q old.token_values ≡ p old.token_values → ReadsOrOutOfMemory view p old new r → ReadsOrOutOfMemory view q old new r
reads_as p q view old new (Ok v) e h = (e ∙ h.0, h.1)
reads_as p q view old new (Err (Fault d)) e h = e ∙ h
reads_as p q view old new (Err OutOfMemory) e h = tt
