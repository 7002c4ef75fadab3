use Rattle.std.proofs.Common.{◌≡◌, ◌∙◌, ◌++◌, ap, sym, subst, length, string_bytes, arith}
use Rattle.std.specs.Str.{IsUtf8}
use Rattle.std.specs.String.{string_len, string_capacity}
use Rattle.alog_sink.proofs.NamesDated.{pushed, three_parts, text_is_utf8}
use Rattle.alog_sink.proofs.names.write_dated.Goals as goal
use Rattle.alog_sink.proofs.names.write_dated.Goals.{in-Ok, in_default}

pub returns-clause-name : goal.returns-clause-name
returns-clause-name c = elim c.match-from_utf8.branch [
  | in-Ok w ↦
      let text : w.in-Ok.text.now ≡ c.date_text-text.result = w.in-Ok.ensures.cases.0 in
      let eleven : length c.date_text-text.result ≡ 11 = ap length c.date_text-text.ensures in
      let long : length w.in-Ok.text.now ≡ 11 = ap length text ∙ eleven in
      let a = pushed c.push_str.result (string_bytes c.clear.new.self) c.split_at.result.0.now
      (string_len c.clear.new.self) (c.push_str.ensures.succeeds (omega (
        arith,
        c.clear.ensures.len,
        c.clear.ensures.capacity,
        c.split_at.ensures.front_len,
        c.split_at.ensures.back_len,
      )))
      c.push_str.ensures.bytes c.push_str.ensures.len in
      let b = pushed w.push_str-in-Ok.result (string_bytes c.push_str.new.self) w.in-Ok.text.now
      (string_len c.push_str.new.self) (w.push_str-in-Ok.ensures.succeeds (omega (
        arith,
        a.1,
        long,
        c.push_str.ensures.capacity,
        c.clear.ensures.len,
        c.clear.ensures.capacity,
        c.split_at.ensures.front_len,
        c.split_at.ensures.back_len,
      )))
      w.push_str-in-Ok.ensures.bytes w.push_str-in-Ok.ensures.len in
      let d = pushed c.push_str-2.result (string_bytes c.match-from_utf8.into) c.split_at.result.1.now
      (string_len c.match-from_utf8.into) (c.push_str-2.ensures.succeeds (omega (
        arith,
        a.1,
        b.1,
        long,
        ap string_len w.into-is,
        ap string_capacity w.into-is,
        w.push_str-in-Ok.ensures.capacity,
        c.push_str.ensures.capacity,
        c.clear.ensures.len,
        c.clear.ensures.capacity,
        c.split_at.ensures.front_len,
        c.split_at.ensures.back_len,
      )))
      c.push_str-2.ensures.bytes c.push_str-2.ensures.len in
      three_parts c.args.name.now c.args.date (c.split_at.ensures.front ∙ c.extension_at.ensures.before) (text ∙ c.date_text-text.ensures)
      (c.split_at.ensures.back ∙ c.extension_at.ensures.after) (a.0 ∙ ap (λ xs. xs ++ c.split_at.result.0.now) c.clear.ensures.bytes)
      (ap string_bytes w.into-is ∙ b.0) d.0
  | in_default w ↦ absurd (w.in_default.ensures.cases.0 (subst IsUtf8 (sym c.date_text-text.ensures) (text_is_utf8 c.args.date)))
]
