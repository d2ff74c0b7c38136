use Rattle.sfbank.proofs.SavedFolders.{all_saved, few_among, wave_fails, wave_saved}
use Rattle.sfbank.proofs.program.saved_folder.save_waves.Goals as goal

pub loop-number-preserved : goal.loop-number-preserved
loop-number-preserved g c =
    let l = c.loop-number in
    wave_saved c.args.folder.now c.args.samples.now l.number _ _ (g.H.Host.world l.host) _ c.loop-number-test.true
    c.index-samples-number.is l.invariant c.in-Ok.ensures

pub returns-in-Err : goal.returns-in-Err
returns-in-Err g c =
    let l = c.loop-number in
    wave_fails c.args.folder.now c.args.samples.now l.number _ _ (g.H.Host.world l.host) _ _ c.in-Err.fault
    c.loop-number-test.true c.index-samples-number.is l.invariant c.in-Err.ensures

pub returns : goal.returns
returns g c =
    let l = c.loop-number in
    all_saved c.args.folder.now c.args.samples.now l.number _ (g.H.Host.world l.host) c.loop-number-test.false l.invariant

pub save_wave-requires : goal.save_wave-requires
save_wave-requires g c =
    few_among c.args.samples.now c.loop-number.number _ c.requires c.loop-number-test.true c.index-samples-number.is
