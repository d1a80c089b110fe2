mod LabelLaws
mod CertifiedLaws
