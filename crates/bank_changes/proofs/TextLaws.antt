-- A text of a bank replaced.
use Rattle.std.proofs.Common.{◌≡◌, ◌<◌, ℕ, true, List, length, refl, ◌∙◌, ap}
use Rattle.sf_base.specs.Names.{IsText, IsTextByte}
use Rattle.bank_parts.specs.declared.texts.Texts.{Texts}
use Rattle.bank_parts.specs.declared.texts.InfoId.{InfoId}
use Rattle.bank_parts.specs.declared.texts.InfoId.TheVariants.{Engine, Name, Date, Engineers, Product, Copyright}
use Rattle.bank_parts.specs.declared.texts.InfoId.TheVariants.{Comment, Software}
use Rattle.bank_parts.specs.declared.parts.Parts.{Parts}
use Rattle.bank_parts.specs.Texts.{text_of, most_bytes, is_engine}
use Rattle.bank_changes.specs.Texts.{text_set, info_set}
use Rattle.bank_parts.specs.Valid.{AreTexts, IsValid}
use Rattle.bank_parts.specs.Fits.{FitsText, FitTexts}
use Rattle.bank_parts.specs.Sound.{IsSound}
use Rattle.bank_validity.specs.Limits.{totals_of, broken}
use Rattle.bank_validity.proofs.LimitLaws.{limits_of, no_limit_of}
use Rattle.bank_changes.proofs.Everywhere.{all_weaker}

-- a valid text with this id
pub record IsInfo (id : InfoId) (text : List ℕ) : Type 0 where
  pub fits : IsText (most_bytes id) text
  pub there : is_engine id ≡ true → 0 < length text

-- each text of a valid bank is valid for its id
pub info_of : (texts : Texts) (id : InfoId) → AreTexts texts → IsInfo id (text_of texts id)
info_of texts Engine v = record { fits = v.engine; there = λ e. v.engine_there }
info_of texts Name v = record { fits = v.name; there = λ e. absurd cc }
info_of texts Date v = record { fits = v.date; there = λ e. absurd cc }
info_of texts Engineers v = record { fits = v.engineers; there = λ e. absurd cc }
info_of texts Product v = record { fits = v.product; there = λ e. absurd cc }
info_of texts Copyright v = record { fits = v.copyright; there = λ e. absurd cc }
info_of texts Comment v = record { fits = v.comment; there = λ e. absurd cc }
info_of texts Software v = record { fits = v.software; there = λ e. absurd cc }

texts_set : (texts : Texts) (id : InfoId) (text : List ℕ) → IsInfo id text → AreTexts texts
    → AreTexts (text_set texts id text)
texts_set texts Engine text h v =
    record {
      engine =
          h.fits;
      engine_there =
          h.there refl;
      name =
          v.name;
      date =
          v.date;
      engineers =
          v.engineers;
      product =
          v.product;
      copyright = v.copyright;
      comment = v.comment;
      software = v.software;
    }
texts_set texts Name text h v =
    record {
      engine =
          v.engine;
      engine_there =
          v.engine_there;
      name =
          h.fits;
      date =
          v.date;
      engineers =
          v.engineers;
      product =
          v.product;
      copyright = v.copyright;
      comment = v.comment;
      software = v.software;
    }
texts_set texts Date text h v =
    record {
      engine =
          v.engine;
      engine_there =
          v.engine_there;
      name =
          v.name;
      date =
          h.fits;
      engineers =
          v.engineers;
      product =
          v.product;
      copyright = v.copyright;
      comment = v.comment;
      software = v.software;
    }
texts_set texts Engineers text h v =
    record {
      engine =
          v.engine;
      engine_there =
          v.engine_there;
      name =
          v.name;
      date =
          v.date;
      engineers =
          h.fits;
      product =
          v.product;
      copyright = v.copyright;
      comment = v.comment;
      software = v.software;
    }
texts_set texts Product text h v =
    record {
      engine =
          v.engine;
      engine_there =
          v.engine_there;
      name =
          v.name;
      date =
          v.date;
      engineers =
          v.engineers;
      product =
          h.fits;
      copyright = v.copyright;
      comment = v.comment;
      software = v.software;
    }
texts_set texts Copyright text h v =
    record {
      engine =
          v.engine;
      engine_there =
          v.engine_there;
      name =
          v.name;
      date =
          v.date;
      engineers =
          v.engineers;
      product =
          v.product;
      copyright = h.fits;
      comment = v.comment;
      software = v.software;
    }
texts_set texts Comment text h v =
    record {
      engine =
          v.engine;
      engine_there =
          v.engine_there;
      name =
          v.name;
      date =
          v.date;
      engineers =
          v.engineers;
      product =
          v.product;
      copyright = v.copyright;
      comment = h.fits;
      software = v.software;
    }
texts_set texts Software text h v =
    record {
      engine =
          v.engine;
      engine_there =
          v.engine_there;
      name =
          v.name;
      date =
          v.date;
      engineers =
          v.engineers;
      product =
          v.product;
      copyright = v.copyright;
      comment = v.comment;
      software = h.fits;
    }

-- ---- in the ranges of the fields

pub text_fits : {n : ℕ} (text : List ℕ) → IsText n text → FitsText text
text_fits text h = all_weaker IsTextByte (λ byte. byte < 256) (λ byte k. k.1) text h.1

texts_fit : (texts : Texts) → AreTexts texts → FitTexts texts
texts_fit texts v = record {
  engine = text_fits texts.engine v.engine;
  name = text_fits texts.name v.name;
  date = text_fits texts.date v.date;
  engineers = text_fits texts.engineers v.engineers;
  product = text_fits texts.product v.product;
  copyright = text_fits texts.copyright v.copyright;
  comment = text_fits texts.comment v.comment;
  software = text_fits texts.software v.software;
}

pub totals-info : (b : Parts) (id : InfoId) (text : List ℕ) → totals_of (info_set b id text) ≡ totals_of b
unfolding totals_of
totals-info b id text = refl

info_valid : (b : Parts) (id : InfoId) (text : List ℕ) → IsValid b → IsInfo id text → IsValid (info_set b id text)
info_valid b id text v h = record {
  texts = texts_set b.texts id text h v.texts;
  presets = v.presets;
  instruments = v.instruments;
  samples = v.samples;
  limits = limits_of (info_set b id text) (ap broken (totals-info b id text) ∙ no_limit_of b v.limits);
}

pub info_sound : (b : Parts) (id : InfoId) (text : List ℕ) → IsSound b → IsInfo id text → IsSound (info_set b id text)
info_sound b id text s h =
    let f = s.fits in
    let v = info_valid b id text s.valid h in
    record {
      valid = v;
      fits =
          record {
            minor =
                f.minor;
            texts =
                texts_fit (text_set b.texts id text) v.texts;
            presets =
                f.presets;
            instruments = f.instruments;
            samples = f.samples;
          };
    }

-- ---- undo, for each id

pub text_of-set : (texts : Texts) (id : InfoId) (text : List ℕ) → text_of (text_set texts id text) id ≡ text
text_of-set texts Engine text = refl
text_of-set texts id text = refl

pub text_set-back : (texts : Texts) (id : InfoId) (text : List ℕ)
    → text_set (text_set texts id text) id (text_of texts id) ≡ texts
text_set-back texts Engine text = refl
text_set-back texts id text = refl
