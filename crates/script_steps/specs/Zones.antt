-- The forms that edit zones: the parsers of their operands, and the operands that are printed.
use Rattle.std.specs.Prelude.{◌≡◌, ℕ, List, [], ◌∷◌, ◌++◌, codes}
use Rattle.bank_changes.specs.declared.members.Owner.{Owner}
use Rattle.bank_parts.specs.declared.parts.Zone.{Zone}
use Rattle.edit_forms.specs.declared.step.Step.{Step}
use Rattle.edit_forms.specs.declared.step.Step.TheVariants as steps
use Rattle.edit_forms.specs.declared.zones.ZoneStep.{ZoneStep}
use Rattle.edit_forms.specs.declared.zones.ZoneStep.TheVariants.{AddZone, RemoveZone, MoveZone, SplitZone, JoinZone}
use Rattle.edit_forms.specs.declared.zones.ZoneStep.TheVariants.{SetTarget}
use Rattle.script_tokens.specs.Parsers.{Parser, ◌>>=◌, pure, most_word, most_double_word, number}
use Rattle.script_grammar.specs.Operands.{Operand, Fixed, Number}
use Rattle.script_grammar.specs.Names.{next_named}
use Rattle.script_grammar.specs.Ranges.{axis_word, axes, keep_word, keeps}
use Rattle.script_grammar.specs.Zones.{WrittenZone, zone_operands, written_zone, zone_in, zone}
use Rattle.script_steps.specs.Forms.{Form}
use Rattle.script_steps.specs.Members.{place}
use Rattle.script_steps.specs.Owners.{of_zone, owner_zone}

-- ---- an added zone

-- `OWNER K ZONE`
abbrev pub zone_at_operands : Owner → ℕ → WrittenZone → List Operand
zone_at_operands o k written = of_zone o k ++ zone_operands written

-- as it is printed
abbrev pub printed_zone : Owner → ℕ → Zone → List Operand
printed_zone o k z = zone_at_operands o k (written_zone z)

-- operands that encode an added zone: the zone on the line has the value of the zone, in whatever form
pub record EncodesZone (o : Owner) (k : ℕ) (z : Zone) (os : List Operand) : Type 0 where
  pub written : WrittenZone
  pub operands : os ≡ zone_at_operands o k written
  pub has_value : zone_in written ≡ z

-- ---- the forms

-- `OWNER K ZONE`
unfoldable pub add_zone : Parser Step
add_zone = do
  z ← owner_zone
  content ← zone
  pure (steps.Zone z.0 (AddZone z.1 content))

-- `OWNER K`
unfoldable pub remove_zone : Parser Step
remove_zone = do
  z ← owner_zone
  pure (steps.Zone z.0 (RemoveZone z.1))

-- `OWNER I J`
unfoldable pub move_zone : Parser Step
move_zone = do
  z ← owner_zone
  to ← number most_double_word
  pure (steps.Zone z.0 (MoveZone z.1 to))

-- `OWNER K key|vel M`
unfoldable pub split_zone : Parser Step
split_zone = do
  z ← owner_zone
  axis ← next_named axis_word axes
  at ← number 255
  pure (steps.Zone z.0 (SplitZone z.1 axis at))

-- `OWNER K key|vel keep|bare`
unfoldable pub join_zone : Parser Step
join_zone = do
  z ← owner_zone
  axis ← next_named axis_word axes
  keep ← next_named keep_word keeps
  pure (steps.Zone z.0 (JoinZone z.1 axis keep))

-- `OWNER K TARGET`
unfoldable pub set_target : Parser Step
set_target = do
  z ← owner_zone
  target ← number most_word
  pure (steps.Zone z.0 (SetTarget z.1 target))

-- the forms
unfoldable pub forms : List Form
forms =
    (codes "add-zone", add_zone) ∷ (codes "remove-zone", remove_zone) ∷ (codes "move-zone", move_zone)
    ∷ (codes "split-zone", split_zone) ∷ (codes "join-zone", join_zone) ∷ (codes "set-target", set_target) ∷ []

-- the word of a step's form, and the operands that are printed after it
abbrev pub printed : Owner → ZoneStep → List ℕ × List Operand
printed o (AddZone at zone) = (codes "add-zone", printed_zone o at zone)
printed o (RemoveZone zone) = (codes "remove-zone", of_zone o zone)
printed o (MoveZone from to) = (codes "move-zone", of_zone o from ++ place to ∷ [])
printed o (SplitZone zone axis at) =
    (codes "split-zone", of_zone o zone ++ Fixed (axis_word axis) ∷ Number 255 at ∷ [])
printed o (JoinZone zone axis kept) =
    (codes "join-zone", of_zone o zone ++ Fixed (axis_word axis) ∷ Fixed (keep_word kept) ∷ [])
printed o (SetTarget zone target) = (codes "set-target", of_zone o zone ++ Number most_word target ∷ [])
