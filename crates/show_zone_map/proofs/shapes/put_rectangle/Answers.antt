use Rattle.std.proofs.Common.{List, ℕ, ap, ◌∙◌}
use Rattle.base_outputs.proofs.OutputLaws.{puts_as, puts_then}
use Rattle.bank_parts.specs.declared.parts.Kind.{Kind}
use Rattle.show_zone_map.specs.Marks.{marks_text}
use Rattle.show_zone_map.specs.Picture.{name_of, drawn, title_marks, label_line, label_marks}
use Rattle.show_zone_map.proofs.shapes.put_rectangle.Goals as goal

pub returns : goal.returns
unfolding drawn
returns g c =
    let r = c.args.rectangle.now in
    let title =
    puts_as _ _ (ap (λ (n : List ℕ). marks_text (title_marks n r)) c.name_of-name.ensures) c.put_title.ensures in
    let line = c.label_line-line.ensures ∙ ap (λ (k : Kind). label_line k r) c.kind_of.ensures in
    let label =
    puts_as _ _
    (ap (λ (n : List ℕ). marks_text (label_marks n c.label_line-line.result r)) c.name_of-name.ensures
    ∙ ap (λ (y : ℕ). marks_text (label_marks (name_of c.args.bank.now r.sample) y r)) line)
    c.put_label.ensures in
    puts_then _ _ title
    (puts_then _ _ c.put_preset_zone.ensures
    (puts_then _ _ c.put_ranges.ensures
    (puts_then _ _ c.put_box.ensures (puts_then _ _ label c.put_root.ensures))))
