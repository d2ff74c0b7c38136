-- The link of a sample to another sample.
use Rattle.std.specs.Prelude.{◌≡◌, ℕ, ◌==◌, Bool, true, false, Option, Some, None, refl}
use Rattle.bank_parts.specs.declared.parts.Kind.{Kind}
use Rattle.bank_parts.specs.declared.parts.Kind.TheVariants.{Mono, Right, Left, Linked}

-- P holds of the number of the linked sample, if there is one
abbrev pub IfLinked : (ℕ → Type 0) → Kind → Type 0
IfLinked P Mono = Unit {0}
IfLinked P (Right link) = P link
IfLinked P (Left link) = P link
IfLinked P (Linked link) = P link

-- the number of the linked sample, if there is one
abbrev pub link_of : Kind → Option ℕ
link_of Mono = None
link_of (Right link) = Some link
link_of (Left link) = Some link
link_of (Linked link) = Some link

-- the same kind with another link, if it has one
abbrev pub with_link : ℕ → Kind → Kind
with_link number Mono = Mono
with_link number (Right link) = Right number
with_link number (Left link) = Left number
with_link number (Linked link) = Linked number

-- the sample is linked
abbrev pub has_link : Kind → Bool
has_link Mono = false
has_link (Right link) = true
has_link (Left link) = true
has_link (Linked link) = true

-- the sample is linked to the sample with this number
abbrev pub links_to : ℕ → Kind → Bool
links_to number Mono = false
links_to number (Right link) = link == number
links_to number (Left link) = link == number
links_to number (Linked link) = link == number

pub unlinked_links_nowhere : (number : ℕ) (kind : Kind) → has_link kind ≡ false → links_to number kind ≡ false
unlinked_links_nowhere number Mono unlinked = refl
unlinked_links_nowhere number (Right link) unlinked = cc
unlinked_links_nowhere number (Left link) unlinked = cc
unlinked_links_nowhere number (Linked link) unlinked = cc
