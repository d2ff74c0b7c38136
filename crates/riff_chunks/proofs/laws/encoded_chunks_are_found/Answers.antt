use Rattle.riff_chunks.proofs.EncodingLaws.{walk-encode-append, chunks_in-encode, is_whole-encode}
use Rattle.riff_chunks.proofs.laws.encoded_chunks_are_found.Goals as goal

pub returns : goal.returns
returns c = record { found = walk-encode-append; read_back = λ cs v. (chunks_in-encode cs v, is_whole-encode cs v) }
