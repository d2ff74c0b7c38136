use Rattle.std.proofs.Common.{◌≡◌, ap, arith, length}
use Rattle.generators.specs.declared.level.Level.TheVariants as level
use Rattle.bank_validity.specs.Limits.{totals_of}
use Rattle.bank_parts.specs.Valid.{point_total}
use Rattle.sf_writer.proofs.PointLaws.{length_all_points}
use Rattle.sf_writer.proofs.OwnerHeadLaws.{length_phdr, length_inst}
use Rattle.sf_writer.proofs.RecordLaws.{length_shdr}
use Rattle.sf_writer.proofs.SizeLaws.{file_size, info_size, sdta_size, pdta_size, zone_sizes}
use Rattle.sf_writer.proofs.sizes.Sizes.of.Goals as goal

pub returns : goal.returns
unfolding totals_of
returns c =
    let b = c.args.bank.now in
    let t = c.file_totals-totals.result in
    let is = c.file_totals-totals.ensures.value in
    let valid = c.file_totals-totals.ensures.valid in
    let chunks = c.chunks_size-info.ensures.value in
    let points : t.points ≡ point_total b.samples = ap (λ x. x.points) is in
    let p = c.of-presets.ensures in
    let presets =
    zone_sizes level.Preset b.presets t.presets c.of-presets.result (ap (λ x. x.presets) is) p.bags p.mods p.gens
    in
    let i = c.of-instruments.ensures in
    let instruments =
    zone_sizes level.Inst b.instruments t.instruments c.of-instruments.result (ap (λ x. x.instruments) is)
    i.bags i.mods i.gens in
    let pb = presets.bags in
    let pm = presets.mods in
    let pg = presets.gens in
    let ib = instruments.bags in
    let im = instruments.mods in
    let ig = instruments.gens in
    let phdr = c.list_size-phdr.ensures in
    let phdr_count : t.presets.count ≡ length b.presets = ap (λ x. x.presets.count) is in
    let inst = c.list_size-inst.ensures in
    let inst_count : t.instruments.count ≡ length b.instruments = ap (λ x. x.instruments.count) is in
    let shdr = c.list_size-shdr.ensures in
    let shdr_count : t.samples ≡ length b.samples = ap (λ x. x.samples) is in
    let pt = c.total.ensures in
    let it = c.total-2.ensures in record {
      file =
          omega (
            arith,
            file_size b,
            info_size b,
            chunks,
            sdta_size b,
            length_all_points b,
            points,
            pdta_size b valid,
            length_phdr b valid,
            phdr,
            phdr_count,
            pt,
            pb,
            pm,
            pg,
            length_inst b valid,
            inst,
            inst_count,
            it,
            ib,
            im,
            ig,
            length_shdr b valid,
            shdr,
            shdr_count,
          );
      info = omega (arith, info_size b, chunks);
      sdta = omega (arith, sdta_size b, length_all_points b, points);
      smpl = omega (arith, length_all_points b, points);
      pdta =
          omega (
            arith,
            pdta_size b valid,
            length_phdr b valid,
            phdr,
            phdr_count,
            pt,
            pb,
            pm,
            pg,
            length_inst b valid,
            inst,
            inst_count,
            it,
            ib,
            im,
            ig,
            length_shdr b valid,
            shdr,
            shdr_count,
          );
      phdr = omega (arith, length_phdr b valid, phdr, phdr_count);
      presets = presets;
      inst = omega (arith, length_inst b valid, inst, inst_count);
      instruments = instruments;
      shdr = omega (arith, length_shdr b valid, shdr, shdr_count);
    }
