use Rattle.base_outputs.proofs.OutputLaws.{putting_member}
use Rattle.show_page.specs.Json.{character}
use Rattle.show_page.proofs.Loops.{putting_all}
use Rattle.show_page.proofs.json.put_characters.Goals as goal

pub loop-byte-preserved : goal.loop-byte-preserved
loop-byte-preserved g c =
    putting_member character c.args.text.now c.loop-byte.byte-index 0 c.loop-byte.invariant c.loop-byte-test.true
    c.put_character.ensures

pub returns : goal.returns
returns g c = putting_all character c.args.text.now c.loop-byte.byte-index c.loop-byte.invariant c.loop-byte-test.false
