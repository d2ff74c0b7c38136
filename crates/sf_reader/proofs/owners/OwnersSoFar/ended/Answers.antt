use Rattle.std.proofs.Common.{◌≡◌, ◌∙◌, ◌+◌, length, ap, sym, refl}
use Rattle.bank_core.specs.Heads.{head_records}
use Rattle.sf_reader.proofs.OwnerLaws.{found, found_that}
use Rattle.sf_reader.proofs.owners.OwnersSoFar.ended.Goals as goal

pub unwrap-heads-requires : goal.unwrap-heads-requires
unwrap-heads-requires g c =
    let firsts = c.args.self.first_bags.items in
    found (length firsts ≡ length c.from_vec.result + 1) (λ r. r ≡ head_records c.from_vec.result firsts)
    c.new.result c.new.ensures (c.requires ∙ ap (λ l. length l + 1) (sym c.from_vec.ensures))

pub returns : goal.returns
returns g c =
    let firsts = c.args.self.first_bags.items in
    let heads =
    found_that (length firsts ≡ length c.from_vec.result + 1) (λ r. r ≡ head_records c.from_vec.result firsts)
    c.new.result c.unwrap-heads.result c.new.ensures c.unwrap-heads.ensures in
    record {
      heads_are =
          heads ∙ ap (λ l. head_records l firsts) c.from_vec.ensures;
      records_are =
          c.in_ok-records.ensures;
      counts_are = refl;
    }
