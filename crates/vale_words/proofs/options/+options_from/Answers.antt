use Rattle.std.proofs.Common.{◌∙◌, sym, subst}
use Rattle.std.specs.Prelude.{string_bytes}
use Rattle.vale_words.proofs.OptionLemmas.{texts-cons, texts-none, no_value, wrong_value, ReadOption, found_behind, wanted_behind, fault_behind, fewer_behind}
use Rattle.vale_words.specs.Words.{IsValue}
use Rattle.vale_words.proofs.options.+options_from.Goals as goal

pub returns-in_default-behind-clause-fault : goal.returns-in_default-behind-clause-fault
returns-in_default-behind-clause-fault t c =
    rw (c.fault_at-in_default-behind.ensures, texts-cons _ _ c.in-len1-up.len_at_least c.key-item.is, texts-none _ c.in_default-behind.len_below)
    (no_value c.args.chosen c.in-Some.option (string_bytes c.key-item.result) (c.in-Some.ensures.found ∙ c.as_str.ensures.value) (sym c.if-has.ensures))

pub returns-in_default-2-clause-fault : goal.returns-in_default-2-clause-fault
returns-in_default-2-clause-fault t c =
    rw (c.fault_at-in_default-2.ensures, texts-cons _ _ c.in-len1-up.len_at_least c.key-item.is, texts-cons _ _ c.in-len1-up-behind.len_at_least c.value-item.is)
    (wrong_value c.args.chosen c.in-Some.option (string_bytes c.key-item.result) (c.in-Some.ensures.found ∙ c.as_str.ensures.value) (sym c.if-has.ensures)
    (λ p e. c.in-Some.ensures.complete p (e ∙ sym c.as_str.ensures.value)) (string_bytes c.value-item.result) _
    (λ other of is. c.in_default-2.not-Some other (c.in_ok-setting.ensures.complete other of (subst (λ w. IsValue w other) (sym c.as_str-2.ensures.value) is))))

pub returns-in-Ok-clause-found : goal.returns-in-Ok-clause-found
returns-in-Ok-clause-found t c =
    let read : ReadOption c.args.chosen c.in-Some.option (string_bytes c.key-item.result) (string_bytes c.value-item.result) c.in-Some-2.setting =
    let set = rw c.in-Some-2.is at c.in_ok-setting.ensures.found in
    record {
      named = c.in-Some.ensures.found ∙ c.as_str.ensures.value;
      free = sym c.if-has.ensures;
      only = λ p e. c.in-Some.ensures.complete p (e ∙ sym c.as_str.ensures.value);
      of = set.0;
      is = subst (λ w. IsValue w c.in-Some-2.setting) c.as_str-2.ensures.value set.1;
      one = λ other of is. sym c.in-Some-2.is ∙ c.in_ok-setting.ensures.complete other of (subst (λ w. IsValue w other) (sym c.as_str-2.ensures.value) is);
    } in
    let after = rw c.with.ensures at c.in-Ok.ensures.found in
    rw (texts-cons _ _ c.in-len1-up.len_at_least c.key-item.is, texts-cons _ _ c.in-len1-up-behind.len_at_least c.value-item.is)
    (found_behind _ _ _ _ _ read _ _ after)

pub returns-in-Ok-clause-complete : goal.returns-in-Ok-clause-complete
returns-in-Ok-clause-complete t c o chooses =
    let read : ReadOption c.args.chosen c.in-Some.option (string_bytes c.key-item.result) (string_bytes c.value-item.result) c.in-Some-2.setting =
    let set = rw c.in-Some-2.is at c.in_ok-setting.ensures.found in
    record {
      named = c.in-Some.ensures.found ∙ c.as_str.ensures.value;
      free = sym c.if-has.ensures;
      only = λ p e. c.in-Some.ensures.complete p (e ∙ sym c.as_str.ensures.value);
      of = set.0;
      is = subst (λ w. IsValue w c.in-Some-2.setting) c.as_str-2.ensures.value set.1;
      one = λ other of is. sym c.in-Some-2.is ∙ c.in_ok-setting.ensures.complete other of (subst (λ w. IsValue w other) (sym c.as_str-2.ensures.value) is);
    } in
    let all = rw (texts-cons _ _ c.in-len1-up.len_at_least c.key-item.is, texts-cons _ _ c.in-len1-up-behind.len_at_least c.value-item.is) at chooses in
    let complete = rw c.with.ensures at c.in-Ok.ensures.complete in
    complete o (wanted_behind _ _ _ _ _ read _ o all)

pub returns-in-Err-Is-clause-complete : goal.returns-in-Err-Is-clause-complete
returns-in-Err-Is-clause-complete t c o chooses =
    let read : ReadOption c.args.chosen c.in-Some.option (string_bytes c.key-item.result) (string_bytes c.value-item.result) c.in-Some-2.setting =
    let set = rw c.in-Some-2.is at c.in_ok-setting.ensures.found in
    record {
      named = c.in-Some.ensures.found ∙ c.as_str.ensures.value;
      free = sym c.if-has.ensures;
      only = λ p e. c.in-Some.ensures.complete p (e ∙ sym c.as_str.ensures.value);
      of = set.0;
      is = subst (λ w. IsValue w c.in-Some-2.setting) c.as_str-2.ensures.value set.1;
      one = λ other of is. sym c.in-Some-2.is ∙ c.in_ok-setting.ensures.complete other of (subst (λ w. IsValue w other) (sym c.as_str-2.ensures.value) is);
    } in
    let all = rw (texts-cons _ _ c.in-len1-up.len_at_least c.key-item.is, texts-cons _ _ c.in-len1-up-behind.len_at_least c.value-item.is) at chooses in
    let complete = rw (c.with.ensures, c.in-Err-Is.field-0-is) at c.in-Err-Is.ensures.complete in
    absurd (complete o (wanted_behind _ _ _ _ _ read _ o all))

pub returns-in-Err-Is-clause-fault : goal.returns-in-Err-Is-clause-fault
returns-in-Err-Is-clause-fault t c =
    let read : ReadOption c.args.chosen c.in-Some.option (string_bytes c.key-item.result) (string_bytes c.value-item.result) c.in-Some-2.setting =
    let set = rw c.in-Some-2.is at c.in_ok-setting.ensures.found in
    record {
      named = c.in-Some.ensures.found ∙ c.as_str.ensures.value;
      free = sym c.if-has.ensures;
      only = λ p e. c.in-Some.ensures.complete p (e ∙ sym c.as_str.ensures.value);
      of = set.0;
      is = subst (λ w. IsValue w c.in-Some-2.setting) c.as_str-2.ensures.value set.1;
      one = λ other of is. sym c.in-Some-2.is ∙ c.in_ok-setting.ensures.complete other of (subst (λ w. IsValue w other) (sym c.as_str-2.ensures.value) is);
    } in
    let fault = rw (c.with.ensures, c.in-Err-Is.field-0-is) at c.in-Err-Is.ensures.fault in
    rw (c.fault_at-in-Err-Is.ensures, texts-cons _ _ c.in-len1-up.len_at_least c.key-item.is, texts-cons _ _ c.in-len1-up-behind.len_at_least c.value-item.is)
    (fault_behind _ _ _ _ _ read _ _ fault)

pub returns-in-Err-Is-clause-near : goal.returns-in-Err-Is-clause-near
returns-in-Err-Is-clause-near t c =
    let read : ReadOption c.args.chosen c.in-Some.option (string_bytes c.key-item.result) (string_bytes c.value-item.result) c.in-Some-2.setting =
    let set = rw c.in-Some-2.is at c.in_ok-setting.ensures.found in
    record {
      named = c.in-Some.ensures.found ∙ c.as_str.ensures.value;
      free = sym c.if-has.ensures;
      only = λ p e. c.in-Some.ensures.complete p (e ∙ sym c.as_str.ensures.value);
      of = set.0;
      is = subst (λ w. IsValue w c.in-Some-2.setting) c.as_str-2.ensures.value set.1;
      one = λ other of is. sym c.in-Some-2.is ∙ c.in_ok-setting.ensures.complete other of (subst (λ w. IsValue w other) (sym c.as_str-2.ensures.value) is);
    } in
    let near = rw (c.with.ensures, c.in-Err-Is.field-0-is) at c.in-Err-Is.ensures.near in
    rw c.fault_at-in-Err-Is.ensures
    (fewer_behind _ _ _ _ _ read _ near)
