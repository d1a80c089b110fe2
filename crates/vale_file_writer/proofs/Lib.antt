mod BesideLaws
