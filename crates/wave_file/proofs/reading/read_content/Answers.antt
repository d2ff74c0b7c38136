use Rattle.wave_file.specs.Wave.{DATA}
use Rattle.wave_file.specs.SampleWave.{SAMPLER}
use Rattle.wave_file.proofs.ReadLaws.{has_format, has_data, format_fails, data_fails, sampler_fails, content_reads}
use Rattle.wave_file.proofs.reading.read_content.Goals as goal

pub returns-in_err-format : goal.returns-in_err-format
returns-in_err-format c =
    format_fails c.args.options c.args.chunks.now c.from_residual.result c.format.result.now
    c.in_err-format.field-0.0 c.format.ensures c.from_residual.ensures.1 c.in_err-format.ensures.reads

pub returns-in_err-channels : goal.returns-in_err-channels
unfolding DATA
returns-in_err-channels c =
    let options = c.args.options in
    let chunks = c.args.chunks.now in
    let format =
    has_format options chunks c.format.result.now c.in_ok-format.format c.format.ensures
    c.in_ok-format.ensures.reads.0 c.in_ok-format.ensures.reads.1 in
    data_fails options chunks c.from_residual-in_err-channels.result c.in_ok-format.format _ c.in_err-channels.field-0.0
    format c.frames.ensures c.from_residual-in_err-channels.ensures.1 c.in_err-channels.ensures

pub returns-in_err-sampler : goal.returns-in_err-sampler
unfolding DATA SAMPLER
returns-in_err-sampler c =
    let options = c.args.options in
    let chunks = c.args.chunks.now in
    let format =
    has_format options chunks c.format.result.now c.in_ok-format.format c.format.ensures
    c.in_ok-format.ensures.reads.0 c.in_ok-format.ensures.reads.1 in
    let found =
    has_data options chunks c.in_ok-format.format _ c.in_ok-channels.channels c.frames.ensures
    c.in_ok-channels.ensures.0 c.in_ok-channels.ensures.1 in
    sampler_fails options chunks c.from_residual-in_err-sampler.result c.in_ok-format.format c.in_ok-channels.channels
    _ _ c.in_err-sampler.field-0.0 format found c.frame_count.ensures c.sampler.ensures
    c.from_residual-in_err-sampler.ensures.1 c.in_err-sampler.ensures

pub returns : goal.returns
unfolding DATA SAMPLER
returns c =
    let options = c.args.options in
    let chunks = c.args.chunks.now in
    let format =
    has_format options chunks c.format.result.now c.in_ok-format.format c.format.ensures
    c.in_ok-format.ensures.reads.0 c.in_ok-format.ensures.reads.1 in
    let found =
    has_data options chunks c.in_ok-format.format _ c.in_ok-channels.channels c.frames.ensures
    c.in_ok-channels.ensures.0 c.in_ok-channels.ensures.1 in
    content_reads options chunks c.in_ok-format.format c.in_ok-channels.channels _ _ c.in_ok-sampler.sampler
    c.with_key.result format found
    c.frame_count.ensures c.sampler.ensures c.in_ok-sampler.ensures.0 c.in_ok-sampler.ensures.1 c.with_key.ensures
