use Rattle.std.proofs.Common.{◌≡◌, ◌++◌, length, ap, ◌∙◌, arith}
use Rattle.std.proofs.lemmas.Result.{on_ok_weaker, on_err_weaker}
use Rattle.pv_model.specs.Machine.{components, weight}
use Rattle.pv_namei.specs.Components.{with_slashes}
use Rattle.pv_namei.proofs.JoinedComponents.{length-with_slashes, components-slash, weight-append, weight-components, components-joined}
use Rattle.pv_namei.proofs.joined.Joined.join.Goals as goal
use Rattle.pv_namei.proofs.joined.Joined.join.Goals.{After-push_components-2}

-- the target alone
text_encoded : (c : After-push_components-2) → c.push_components.new.bytes.items ≡ with_slashes (components c.args.text.now)
text_encoded c = c.in_ok-push_components.ensures.ok ∙ ap (λ bytes. bytes ++ with_slashes (components c.args.text.now)) c.clear.ensures

pub returns-clause-ok : goal.returns-clause-ok
returns-clause-ok c =
    on_ok_weaker c.push_components-2.result
    (λ is.
    components-joined c.args.text.now c.as_slice-rest.result.now c.push_components-2.new.bytes.items
    (is ∙ ap (λ bytes. bytes ++ with_slashes (components c.as_slice-rest.result.now)) (text_encoded c))
    ∙ ap (λ ps. components c.args.text.now ++ ps) c.as_slice-rest.ensures)
    c.push_components-2.ensures.ok

pub returns-clause-fits : goal.returns-clause-fits
returns-clause-fits c =
    on_ok_weaker c.push_components-2.result
    (λ fits.
    omega (arith, fits, c.in_ok-push_components.ensures.fits, ap length c.clear.ensures, weight-append (components c.args.text.now) c.args.rest.now, ap weight c.as_slice-rest.ensures, ap length (text_encoded c), length-with_slashes (components c.args.text.now)))
    c.push_components-2.ensures.fits

pub returns-clause-too_long : goal.returns-clause-too_long
returns-clause-too_long c =
    on_err_weaker c.push_components-2.result
    (λ long.
    omega (arith, long, weight-append (components c.args.text.now) c.args.rest.now, ap weight c.as_slice-rest.ensures, ap length (text_encoded c), length-with_slashes (components c.args.text.now)))
    c.push_components-2.ensures.too_long

pub returns-then-rest-lt-HALF-clause-ok : goal.returns-then-rest-lt-HALF-clause-ok
returns-then-rest-lt-HALF-clause-ok c =
    ap components c.put_both.ensures ∙ components-slash c.args.text.now c.as_slice-rest.result.now ∙ ap (λ ps. components c.args.text.now ++ ps) c.as_slice-rest.ensures

pub returns-then-rest-lt-HALF-clause-fits : goal.returns-then-rest-lt-HALF-clause-fits
returns-then-rest-lt-HALF-clause-fits c =
    omega (arith, c.if-text-lt-HALF.true, c.if-rest-lt-HALF.true, weight-append (components c.args.text.now) c.args.rest.now, ap weight c.as_slice-rest.ensures, weight-components c.args.text.now, weight-components c.as_slice-rest.result.now)
