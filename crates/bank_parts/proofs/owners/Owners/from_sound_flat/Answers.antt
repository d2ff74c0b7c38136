use Rattle.std.proofs.Common.{subst, sym, ◌∙◌}
use Rattle.generators.specs.Levels.{target_operator}
use Rattle.flat_records.specs.Bags.{Tables}
use Rattle.flat_records.specs.Begins as owned
use Rattle.bank_parts.specs.Flat.{RepresentOwners}
use Rattle.bank_parts.specs.FlatLists.{owners_read}
use Rattle.bank_parts.proofs.FromFlatLaws.{owned_by, read_by}
use Rattle.bank_parts.proofs.ReadLaws.{read, are_read}
use Rattle.bank_parts.proofs.owners.Owners.from_sound_flat.Goals as goal
use Rattle.bank_parts.proofs.owners.Owners.from_sound_flat.Given.{Over}

pub from_sound_flat-bags-requires : goal.from_sound_flat-bags-requires
from_sound_flat-bags-requires g c =
    let at = g.H.OwnerHead.LEVEL in
    let places = c.args.first_bags.items in
    let t : Tables = c.args.recs in
    let owners = owners_read at c.args.heads places t in
    subst (owned.AreFlat places t) (sym (read_by at c.args.heads places t owners c.requires.lists))
    (owned_by at c.args.heads places t owners c.requires.lists)

represented : (g : Over) (c : goal.After-from_vec-heads g)
    → RepresentOwners (target_operator g.H.OwnerHead.LEVEL) c.from_vec-heads.result c.from_sound_flat-bags.result.owners
    (owners_read g.H.OwnerHead.LEVEL c.args.heads c.args.first_bags.items c.args.recs)
represented g c =
    let at = g.H.OwnerHead.LEVEL in
    let places = c.args.first_bags.items in
    let t : Tables = c.args.recs in
    record {
      heads = c.from_vec-heads.ensures ∙ (c.into_vec.ensures ∙ c.requires.lists.heads);
      bags =
          c.from_sound_flat-bags.ensures
          ∙ read_by at c.args.heads places t (owners_read at c.args.heads places t) c.requires.lists;
      plain = c.requires.plain;
    }

pub invariant_of-result : goal.invariant_of-result
invariant_of-result g c = are_read (represented g c)

pub returns : goal.returns
returns g c = read (represented g c)
