-- The bodies of the chunks that are read, the first of each id.
use Rattle.std.specs.Prelude.{ℕ, List, Option}
use Rattle.std.specs.Option.{option_copied, option_or}
use Rattle.riff_chunks.specs.Walk.{Chunk}
use Rattle.riff_chunks.specs.Finding.{first_body}
use Rattle.wave_file.specs.Wave.{FORMAT, DATA}
use Rattle.wave_file.specs.SampleWave.{SAMPLER}
use Rattle.wave_file.specs.declared.first_bodies.FirstBodies.{FirstBodies}

pub record Bodies : Type 0 where
  pub format : Option (List ℕ)
  pub frames : Option (List ℕ)
  pub sampler : Option (List ℕ)

-- those of the chunks
abbrev pub bodies_in : List Chunk → Bodies
bodies_in chunks = record {
  format = first_body FORMAT chunks;
  frames = first_body DATA chunks;
  sampler = first_body SAMPLER chunks;
}

-- those that are kept
abbrev pub kept : FirstBodies → Bodies
kept b = record {
  format = option_copied b.format;
  frames = option_copied b.frames;
  sampler = option_copied b.sampler;
}

-- the first ones, and the others for those that are missing
abbrev pub or_else : Bodies → Bodies → Bodies
or_else first others = record {
  format = option_or first.format others.format;
  frames = option_or first.frames others.frames;
  sampler = option_or first.sampler others.sampler;
}
