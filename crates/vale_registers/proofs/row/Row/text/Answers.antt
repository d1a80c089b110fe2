use Rattle.std.proofs.Common.{◌≡◌, ◌<◌, length, get_or, sym, ap, ◌∙◌, arith}
use Rattle.std.proofs.lemmas.List.{get_or_read}
use Rattle.vale_registers.specs.Shares.{share_text}
use Rattle.vale_registers.specs.Texts.{text_at}
use Rattle.vale_registers.specs.declared.row.Share.TheVariants as share
use Rattle.vale_registers.proofs.Rows.{found, past}
use Rattle.vale_registers.proofs.row.Row.text.Goals as goal

pub returns-then-register-len : goal.returns-then-register-len
returns-then-register-len c =
    c.self.invariant
    ∙ sym (ap (λ l. text_at l c.args.register) (sym c.self.view_is) ∙ past c.self.inside.shares.items c.args.register (omega (arith, c.len.ensures, c.self.inside.shares.ok.0, c.if-register-len.true)))

pub returns-in-Blank : goal.returns-in-Blank
returns-in-Blank c =
    let items = c.self.inside.shares.items in
    let lt : c.args.register < length items = omega (arith, c.len.ensures, c.self.inside.shares.ok.0, c.if-register-len.false) in
    let read : c.index.result.now ≡ get_or items c.args.register share.Blank = get_or_read _ c.args.register _ lt c.index.ensures share.Blank in
    c.self.invariant ∙ sym (ap (λ l. text_at l c.args.register) (sym c.self.view_is) ∙ found items c.args.register share.Blank lt ∙ ap share_text (sym read ∙ c.in-Blank.is))

pub returns-in-Of : goal.returns-in-Of
returns-in-Of c =
    let items = c.self.inside.shares.items in
    let lt : c.args.register < length items = omega (arith, c.len.ensures, c.self.inside.shares.ok.0, c.if-register-len.false) in
    let read : c.index.result.now ≡ get_or items c.args.register share.Blank = get_or_read _ c.args.register _ lt c.index.ensures share.Blank in
    c.deref.ensures ∙ sym (ap (λ l. text_at l c.args.register) (sym c.self.view_is) ∙ found items c.args.register share.Blank lt ∙ ap share_text (sym read ∙ c.in-Of.is))
